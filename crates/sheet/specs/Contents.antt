-- How the instructions of a page are written: operands, the operator, LF.
use Rattle.std.specs.Prelude.{ℕ, List, [], ◌∷◌, ◌++◌, ℤ, pos, neg_ℤ, codes}
use Rattle.page.specs.Numbers.{name_of, letter_of}
use Rattle.machine.specs.Axes.{rotated_x, rotated_y}
use Rattle.machine.specs.State.{codes_in}
use Rattle.pdf.specs.Tokens.{Token, int, name, text, dict_open, dict_close, written}
use Rattle.sheet.specs.declared.instructions.Instruction.{Instruction}
use Rattle.sheet.specs.declared.instructions.Instruction.TheVariants.{Save, Restore, Origin, Turn, BeginText, Font, EndText, Mark, Artifact, EndMark, Move, Line, Paint, Place, Show}

-- Two numbers as operands.
abbrev pub pair : ℤ → ℤ → List Token
pair a b = int a ∷ int b ∷ []

-- The six numbers of a matrix as operands.
abbrev pub matrix : ℤ → ℤ → ℤ → ℤ → ℤ → ℤ → List Token
matrix a b c d e f = int a ∷ int b ∷ int c ∷ int d ∷ int e ∷ int f ∷ []

-- The matrix of k quarter turns: they take (1, 0) to (c, s).
abbrev pub turn_matrix : ℕ → List Token
turn_matrix k =
    let c : ℤ = rotated_x k (pos 1) (pos 0) in
    let s : ℤ = rotated_y k (pos 1) (pos 0) in
    matrix c s (neg_ℤ s) c (pos 0) (pos 0)

-- The operands of an instruction.
abbrev pub operands_of : Instruction → List Token
operands_of Save = []
operands_of Restore = []
operands_of (Origin a b) = matrix (pos 1) (pos 0) (pos 0) (pos 1) a b
operands_of (Turn quarters) = turn_matrix quarters
operands_of BeginText = []
operands_of (Font size) = name (codes "F1") ∷ int (pos size) ∷ []
operands_of EndText = []
operands_of (Mark role identifier) = name (name_of role) ∷ dict_open ∷ name (codes "MCID") ∷ int (pos identifier) ∷ dict_close ∷ []
operands_of Artifact = name (codes "Artifact") ∷ []
operands_of EndMark = []
operands_of (Move a b) = pair a b
operands_of (Line a b) = pair a b
operands_of (Paint operator) = []
operands_of (Place a b) = pair a b
operands_of (Show shown) = text (codes_in shown) ∷ []

-- The operator of an instruction.
abbrev pub operator_of : Instruction → List ℕ
operator_of Save = codes "q"
operator_of Restore = codes "Q"
operator_of (Origin a b) = codes "cm"
operator_of (Turn quarters) = codes "cm"
operator_of BeginText = codes "BT"
operator_of (Font size) = codes "Tf"
operator_of EndText = codes "ET"
operator_of (Mark role identifier) = codes "BDC"
operator_of Artifact = codes "BMC"
operator_of EndMark = codes "EMC"
operator_of (Move a b) = codes "m"
operator_of (Line a b) = codes "l"
operator_of (Paint operator) = letter_of operator ∷ []
operator_of (Place a b) = codes "Td"
operator_of (Show shown) = codes "Tj"

-- Operands, each followed by a space, and then an operator and LF.
abbrev pub line_by : List Token → List ℕ → List ℕ
line_by [] operator = operator ++ 10 ∷ []
line_by (t ∷ ts) operator = written t ++ 32 ∷ line_by ts operator

-- The line of an instruction.
abbrev pub line_of : Instruction → List ℕ
line_of i = line_by (operands_of i) (operator_of i)

-- The lines of some instructions.
unfoldable pub contents_of : List Instruction → List ℕ
contents_of [] = []
contents_of (i ∷ is) = line_of i ++ contents_of is
