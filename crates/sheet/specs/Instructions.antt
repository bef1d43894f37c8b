-- How the instructions of contents are read: operands up to an operator, and what they mean together.
use Rattle.std.specs.Prelude.{ℕ, zero, suc, Bool, true, false, ◌&&◌, List, [], ◌∷◌, length, ℤ, pos, negsuc, Some, None, codes, Option, ◌==◌, slice_index_or}
use Rattle.std.specs.Str.{bytes_eq}
use Rattle.page.specs.declared.types.Codes.{Codes}
use Rattle.page.specs.declared.types.Codes.TheVariants.{One, Two, Three}
use Rattle.page.specs.declared.types.PaintOperator.TheVariants.{Stroke, CloseAndStroke, Fill, End}
use Rattle.page.specs.Fields.{is_signed, is_size, is_code}
use Rattle.pdf.specs.Lookups.{not_negative}
use Rattle.pdf.specs.Tokens.{Token, int, name, word, text, array_open, array_close, dict_open, dict_close, token}
use Rattle.sheet.specs.declared.instructions.Instruction.{Instruction}
use Rattle.sheet.specs.declared.instructions.Instruction.TheVariants.{Save, Restore, Origin, Turn, BeginText, Font, EndText, Mark, Artifact, EndMark, Move, Line, Paint, Place, Show}
use Rattle.sheet.specs.Contents.{turn_matrix}
use Rattle.sheet.specs.Lines.{bind}
use Rattle.sheet.specs.Objects.{type_named}
use Rattle.sheet.specs.Table.{when}

-- An instruction as it stands: its operands and its operator.
pub record Spelled : Type 0 where
  pub operands : List Token
  pub operator : List ℕ

-- The operator that a token is, if it is one.
abbrev pub operator_in : Token → Option (List ℕ)
operator_in (int z) = None
operator_in (name s) = None
operator_in (word w) = Some w
operator_in (text s) = None
operator_in array_open = None
operator_in array_close = None
operator_in dict_open = None
operator_in dict_close = None

-- One operand more in front.
abbrev pub with_operand : Token → Option (Spelled × List ℕ) → Option (Spelled × List ℕ)
with_operand t None = None
with_operand t (Some r) = Some (record { operands = t ∷ r.0.operands; operator = r.0.operator }, r.1)

-- An operator ends the instruction; any other token is an operand, and more follow.
abbrev pub spelled_by : (List ℕ → Option (Spelled × List ℕ)) → Token → Option (List ℕ) → List ℕ → Option (Spelled × List ℕ)
spelled_by more t (Some w) bs = Some (record { operands = []; operator = w }, bs)
spelled_by more t None bs = with_operand t (more bs)

-- The instruction in front, in fewer tokens than this, and what follows it.
unfoldable pub spelled_in : ℕ → List ℕ → Option (Spelled × List ℕ)
spelled_in zero bs = None
spelled_in (suc k) bs = bind (token bs) λ r. spelled_by (spelled_in k) r.0 (operator_in r.0) r.1

-- The number that an operand is.
abbrev pub int_in : Token → Option ℤ
int_in (int z) = Some z
int_in (name s) = None
int_in (word w) = None
int_in (text s) = None
int_in array_open = None
int_in array_close = None
int_in dict_open = None
int_in dict_close = None

-- The numbers that all operands are.
abbrev pub ints_in : List Token → Option (List ℤ)
ints_in [] = Some []
ints_in (t ∷ ts) = bind (int_in t) λ z. bind (ints_in ts) λ zs. Some (z ∷ zs)

-- Two coordinates, each in a word's range.
abbrev pub coordinates : (ℤ → ℤ → Instruction) → List ℤ → Option Instruction
coordinates f [] = None
coordinates f (a ∷ []) = None
coordinates f (a ∷ b ∷ []) = when (is_signed a && is_signed b) (Some (f a b))
coordinates f (a ∷ b ∷ c ∷ zs) = None

-- Integers are the same.
abbrev pub same_int : ℤ → ℤ → Bool
same_int (pos m) (pos n) = m == n
same_int (pos m) (negsuc n) = false
same_int (negsuc m) (pos n) = false
same_int (negsuc m) (negsuc n) = m == n

-- Lists of integers are the same.
abbrev pub same_ints : List ℤ → List ℤ → Bool
same_ints [] [] = true
same_ints [] (b ∷ bs) = false
same_ints (a ∷ as') [] = false
same_ints (a ∷ as') (b ∷ bs) = same_int a b && same_ints as' bs

-- Numbers are these operands.
abbrev pub are_operands : Option (List ℤ) → List ℤ → Bool
are_operands None zs = false
are_operands (Some ys) zs = same_ints ys zs

-- The last two of six numbers whose first four leave the axes unturned.
abbrev pub unturned : List ℤ → Option (List ℤ)
unturned [] = None
unturned (a ∷ []) = None
unturned (a ∷ b ∷ []) = None
unturned (a ∷ b ∷ c ∷ []) = None
unturned (a ∷ b ∷ c ∷ d ∷ zs) = when (same_int a (pos 1) && (same_int b (pos 0) && (same_int c (pos 0) && same_int d (pos 1)))) (Some zs)

-- The first choice that there is.
abbrev pub or_else : {A : Type 0} → Option A → Option A → Option A
or_else None o = o
or_else (Some a) o = Some a

-- The turn whose matrix the numbers are.
abbrev pub turn_by : ℕ → List ℤ → Option Instruction
turn_by k zs = when (are_operands (ints_in (turn_matrix k)) zs) (Some (Turn k))

-- A matrix: of an origin, or of one to three quarter turns. No turn is an origin of (0, 0).
abbrev pub matrix_in : List ℤ → Option Instruction
matrix_in zs = or_else (bind (unturned zs) (coordinates Origin)) (or_else (turn_by 1 zs) (or_else (turn_by 2 zs) (turn_by 3 zs)))

-- Codes to show.
abbrev pub codes_from : List ℕ → Option Codes
codes_from [] = None
codes_from (a ∷ []) = when (is_code a) (Some (One a))
codes_from (a ∷ b ∷ []) = when (is_code a && is_code b) (Some (Two a b))
codes_from (a ∷ b ∷ c ∷ []) = when (is_code a && (is_code b && is_code c)) (Some (Three a b c))
codes_from (a ∷ b ∷ c ∷ d ∷ cs) = None

-- The name that a token is.
abbrev pub name_in : Token → Option (List ℕ)
name_in (int z) = None
name_in (name s) = Some s
name_in (word w) = None
name_in (text s) = None
name_in array_open = None
name_in array_close = None
name_in dict_open = None
name_in dict_close = None

-- The string that a token is.
abbrev pub string_in : Token → Option (List ℕ)
string_in (int z) = None
string_in (name s) = None
string_in (word w) = None
string_in (text s) = Some s
string_in array_open = None
string_in array_close = None
string_in dict_open = None
string_in dict_close = None

-- The token opens a dictionary.
abbrev pub is_dict_open : Token → Bool
is_dict_open (int z) = false
is_dict_open (name s) = false
is_dict_open (word w) = false
is_dict_open (text s) = false
is_dict_open array_open = false
is_dict_open array_close = false
is_dict_open dict_open = true
is_dict_open dict_close = false

-- The token closes a dictionary.
abbrev pub is_dict_close : Token → Bool
is_dict_close (int z) = false
is_dict_close (name s) = false
is_dict_close (word w) = false
is_dict_close (text s) = false
is_dict_close array_open = false
is_dict_close array_close = false
is_dict_close dict_open = false
is_dict_close dict_close = true

-- The token is this name.
abbrev pub names_it : List ℕ → Token → Option Unit
names_it s t = bind (name_in t) λ r. when (bytes_eq r s) (Some tt)

-- No operands.
abbrev pub bare : List Token → Instruction → Option Instruction
bare ts i = when (length ts == 0) (Some i)

-- The operand at a place.
abbrev pub operand : List Token → ℕ → Token
operand ts i = slice_index_or ts i array_close

-- The font F1 in a size.
abbrev pub font_by : List Token → Option Instruction
font_by ts =
    when (length ts == 2)
    (bind (names_it (codes "F1") (operand ts 0)) λ _. bind (bind (int_in (operand ts 1)) not_negative) λ s. when (is_size s) (Some (Font s)))

-- A string to show.
abbrev pub show_by : List Token → Option Instruction
show_by ts = when (length ts == 1) (bind (bind (string_in (operand ts 0)) codes_from) λ shown. Some (Show shown))

-- The mark of an artifact.
abbrev pub artifact_by : List Token → Option Instruction
artifact_by ts = when (length ts == 1) (bind (names_it (codes "Artifact") (operand ts 0)) λ _. Some Artifact)

-- The mark of an element, by its type and identifier.
abbrev pub mark_by : List Token → Option Instruction
mark_by ts =
    when (length ts == 5 && (is_dict_open (operand ts 1) && is_dict_close (operand ts 4)))
    (bind (bind (name_in (operand ts 0)) type_named) λ role.
    bind (names_it (codes "MCID") (operand ts 2)) λ _.
    bind (bind (int_in (operand ts 3)) not_negative) λ i. Some (Mark role i))

-- What operands and operator mean together, if they are an instruction.
abbrev pub meaning_of : List Token → List ℕ → Option Instruction
meaning_of ts w =
    elim (bytes_eq w (codes "q")) [
      | true ↦ bare ts Save
      | false ↦
          elim (bytes_eq w (codes "Q")) [
            | true ↦ bare ts Restore
            | false ↦
                elim (bytes_eq w (codes "cm")) [
                  | true ↦ bind (ints_in ts) matrix_in
                  | false ↦
                      elim (bytes_eq w (codes "BT")) [
                        | true ↦ bare ts BeginText
                        | false ↦
                            elim (bytes_eq w (codes "Tf")) [
                              | true ↦ font_by ts
                              | false ↦
                                  elim (bytes_eq w (codes "ET")) [
                                    | true ↦ bare ts EndText
                                    | false ↦
                                        elim (bytes_eq w (codes "BDC")) [
                                          | true ↦ mark_by ts
                                          | false ↦
                                              elim (bytes_eq w (codes "BMC")) [
                                                | true ↦ artifact_by ts
                                                | false ↦
                                                    elim (bytes_eq w (codes "EMC")) [
                                                      | true ↦ bare ts EndMark
                                                      | false ↦
                                                          elim (bytes_eq w (codes "m")) [
                                                            | true ↦ bind (ints_in ts) (coordinates Move)
                                                            | false ↦
                                                                elim (bytes_eq w (codes "l")) [
                                                                  | true ↦ bind (ints_in ts) (coordinates Line)
                                                                  | false ↦
                                                                      elim (bytes_eq w (codes "Td")) [
                                                                        | true ↦ bind (ints_in ts) (coordinates Place)
                                                                        | false ↦
                                                                            elim (bytes_eq w (codes "Tj")) [
                                                                              | true ↦ show_by ts
                                                                              | false ↦
                                                                                  elim (bytes_eq w (codes "S")) [
                                                                                    | true ↦ bare ts (Paint Stroke)
                                                                                    | false ↦
                                                                                        elim (bytes_eq w (codes "s")) [
                                                                                          | true ↦ bare ts (Paint CloseAndStroke)
                                                                                          | false ↦
                                                                                              elim (bytes_eq w (codes "f")) [
                                                                                                | true ↦ bare ts (Paint Fill)
                                                                                                | false ↦
                                                                                                    elim (bytes_eq w (codes "n")) [
                                                                                                      | true ↦ bare ts (Paint End)
                                                                                                      | false ↦
                                                                                                          None
                                                                                                    ]
                                                                                              ]
                                                                                        ]
                                                                                  ]
                                                                            ]
                                                                      ]
                                                                ]
                                                          ]
                                                    ]
                                              ]
                                        ]
                                  ]
                            ]
                      ]
                ]
          ]
    ]

-- The instruction in front, and what follows it.
unfoldable pub instruction_in : List ℕ → Option (Instruction × List ℕ)
instruction_in bs = bind (spelled_in (length bs) bs) λ r. bind (meaning_of r.0.operands r.0.operator) λ i. Some (i, r.1)
