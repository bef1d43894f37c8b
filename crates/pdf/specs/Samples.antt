-- Samples: texts, and what they are read as.
use Rattle.std.specs.Prelude.{◌≡◌, ℕ, zero, suc, List, [], ◌∷◌, ◌++◌, pos, negsuc, Some, None, codes}
use Rattle.pdf.specs.Tokens.{Token, int, name, word, text, array_close, token}
use Rattle.pdf.specs.Values.{Value, number, named, ref, truth, array, dict, none, ◌◂◌, end, entry, value, deepest}
use Rattle.pdf.specs.Written.{render}
use Rattle.pdf.specs.Numbers.{padded}
use Rattle.pdf.specs.Lookups.{field_in, count_entries, nat_of, int_of}

-- The text begins with this token, and this follows.
abbrev pub TokenIs : List ℕ → Token → List ℕ → Type 0
TokenIs bs t rest = token bs ≡ Some (t, rest)

-- The text begins with no good token.
abbrev pub BadToken : List ℕ → Type 0
BadToken bs = token bs ≡ None

-- The text begins with this value, and this follows.
abbrev pub ValueIs : List ℕ → Value → List ℕ → Type 0
ValueIs bs v rest = value deepest bs ≡ Some (v, rest)

-- The text begins with no value.
abbrev pub NoValue : List ℕ → Type 0
NoValue bs = value deepest bs ≡ None

-- So many arrays, each the only value of the one around it, the innermost empty.
abbrev pub nested : ℕ → Value
nested zero = array none
nested (suc k) = array (nested k ◂ none)

-- Numbers: signs, zeros in front, the range, and what is a word instead.
pub record NumbersAsSaid : Type 0 where
  pub plus : TokenIs (codes "+7 ") (int (pos 7)) (codes " ")
  pub zeros : TokenIs (codes "007") (int (pos 7)) []
  pub minus_zero : TokenIs (codes "-0]") (int (pos 0)) (codes "]")
  pub greatest : TokenIs (codes "2147483647") (int (pos 2147483647)) []
  pub least : TokenIs (codes "-2147483647") (int (negsuc 2147483646)) []
  pub too_great : TokenIs (codes "2147483648") (word (codes "2147483648")) []
  pub too_small : TokenIs (codes "-2147483648") (word (codes "-2147483648")) []
  pub point : TokenIs (codes "7.0") (word (codes "7.0")) []
  pub sign_alone : TokenIs (codes "- 7") (word (codes "-")) (codes " 7")
  pub padded_ten : padded 10 563 ≡ codes "0000000563"

-- Names, strings and comments, and what is bad in them.
pub record TokensAsSaid : Type 0 where
  pub empty_name : TokenIs (codes "/ 5") (name []) (codes " 5")
  pub name_then_string : TokenIs (codes "/F1(A)") (name (codes "F1")) (codes "(A)")
  pub number_sign_in_name : BadToken (codes "/A#42")
  pub byte_127_in_name : BadToken (47 ∷ 65 ∷ 127 ∷ [])
  pub octal_wraps : TokenIs (codes "(\\501)") (text (codes "A")) []
  pub octal_short : TokenIs (codes "(\\18\\0012)") (text (1 ∷ 56 ∷ 1 ∷ 50 ∷ [])) []
  pub letters : TokenIs (codes "(\\n\\r\\t\\b\\f\\(\\)\\\\)") (text (10 ∷ 13 ∷ 9 ∷ 8 ∷ 12 ∷ codes "()\\")) []
  pub escape_unknown : BadToken (codes "(\\q)")
  pub escaped_line_end : BadToken (40 ∷ 92 ∷ 10 ∷ 41 ∷ [])
  pub bare_parenthesis : BadToken (codes "(a(b)c)")
  pub open_string : BadToken (codes "(abc")
  pub hex_string : BadToken (codes "<41>")
  pub brace : BadToken (codes "{")
  pub stray_parenthesis : BadToken (codes ")")
  pub cr_ends_comment : TokenIs (codes "%[" ++ (13 ∷ codes "]")) array_close []
  pub no_bytes : BadToken []

-- References, arrays and dictionaries, how deep they nest, and how they are written.
pub record ValuesAsSaid : Type 0 where
  pub reference : ValueIs (codes "5 0 R>>") (ref 5) (codes ">>")
  pub reference_apart : ValueIs (codes "5 %x\n0%y\nR") (ref 5) []
  pub not_generation_one : ValueIs (codes "5 1 R") (number (pos 5)) (codes " 1 R")
  pub negative_is_no_reference : ValueIs (codes "-5 0 R") (number (negsuc 4)) (codes " 0 R")
  pub run_together : ValueIs (codes "5 0 Rx") (number (pos 5)) (codes " 0 Rx")
  pub point : NoValue (codes "7.0")
  pub string : NoValue (codes "(A)")
  pub other_word : NoValue (codes "false")
  pub true_word : ValueIs (codes "true") truth []
  pub items : ValueIs (codes "[1 0 2 0 R[]/A]") (array (number (pos 1) ◂ number (pos 0) ◂ ref 2 ◂ array none ◂ named (codes "A") ◂ none)) []
  pub fields : ValueIs (codes "<</A 1/B[true]>> endobj") (dict (entry (codes "A") (number (pos 1)) (entry (codes "B") (array (truth ◂ none)) end))) (codes " endobj")
  pub key_alone : NoValue (codes "<< /A >>")
  pub number_as_key : NoValue (codes "<< 1 /A >>")
  pub unclosed : NoValue (codes "[1 2")
  pub wrong_bracket : NoValue (codes "[1 >>")
  pub eight_deep : ValueIs (codes "[[[[[[[[]]]]]]]]") (nested 7) []
  pub nine_deep : NoValue (codes "[[[[[[[[[]]]]]]]]]")
  pub mixed_eight_deep : ValueIs (codes "[<</A[[[[[[]]]]]]>>]") (array (dict (entry (codes "A") (nested 5) end) ◂ none)) []
  pub mixed_nine_deep : NoValue (codes "[<</A[[[[[[<<>>]]]]]]>>]")
  pub written : render (dict (entry (codes "K") (array (ref 6 ◂ number (negsuc 11) ◂ none)) (entry (codes "E") (dict end) end))) ≡ codes "<< /K [6 0 R -12] /E << >> >>"

-- Fields of a dictionary, and values by kind.
pub record LookupsAsSaid : Type 0 where
  pub found : field_in (codes "B") (entry (codes "A") truth (entry (codes "B") (ref 4) end)) ≡ Some (ref 4)
  pub first_of_two : field_in (codes "A") (entry (codes "A") truth (entry (codes "A") (ref 4) end)) ≡ Some truth
  pub longer_key : field_in (codes "A") (entry (codes "AB") truth end) ≡ None
  pub counted : count_entries (entry (codes "A") truth (entry (codes "A") (ref 4) end)) ≡ 2
  pub not_negative : nat_of (number (negsuc 0)) ≡ None
  pub reference_is_no_number : int_of (ref 4) ≡ None

-- All samples.
pub record SamplesAsSaid : Type 0 where
  pub numbers : NumbersAsSaid
  pub tokens : TokensAsSaid
  pub values : ValuesAsSaid
  pub lookups : LookupsAsSaid
