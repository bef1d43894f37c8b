-- The first checks of a file: its header, its tail, its table with the trailer, and the starts of its objects.
use Rattle.std.specs.Prelude.{ℕ, zero, suc, ◌+◌, ◌-◌, Bool, true, false, ◌&&◌, List, [], ◌∷◌, reverse, length, take, drop, pos, negsuc, Some, None, Ok, Err, codes, Option, Result, ◌==◌, nat_eq, nat_le, nat_lt}
use Rattle.pdf.specs.Bytes.{digit, front, past, regular}
use Rattle.pdf.specs.Numbers.{natural}
use Rattle.pdf.specs.Tokens.{Token, int, name, word, text, array_open, array_close, dict_open, dict_close, token}
use Rattle.pdf.specs.Values.{is_word}
use Rattle.sheet.specs.declared.faults.Fault.{Fault}
use Rattle.sheet.specs.declared.faults.FaultKind.TheVariants as kind
use Rattle.sheet.specs.Faults.{fault, or_fault, and_then}
use Rattle.sheet.specs.Lines.{bind, after, after_line, after_line_end, before_line_end, or_same, shortest, shortest_number}

-- The most entries of a table, the free one counted.
abbrev pub most_entries : ℕ
most_entries = 1024

-- A tail: where it says that the table is, and how many bytes it has.
pub record Tail : Type 0 where
  pub table : ℕ
  pub size : ℕ

-- A value, provided that a test holds.
abbrev pub when : {A : Type 0} → Bool → Option A → Option A
when true o = o
when false o = None

-- The tail of a file, read from the end: at most one line end, %%EOF, a number, startxref. The number lies in the file.
abbrev pub tail_of : List ℕ → Option Tail
tail_of file =
    let back : List ℕ = reverse file in
    bind (after (codes "FOE%%") (or_same back (before_line_end back))) λ a.
    bind (before_line_end a) λ b.
    bind (shortest (reverse (front digit b))) λ at.
    bind (before_line_end (past digit b)) λ c.
    bind (after (codes "ferxtrats") c) λ rest.
    when (nat_lt at (length file)) (Some (record { table = at; size = length file - length rest }))

-- What follows the end of an entry: SP LF, SP CR or CR LF.
abbrev pub after_entry : List ℕ → Option (List ℕ)
after_entry [] = None
after_entry (b ∷ []) = None
after_entry (b ∷ c ∷ bs) =
    elim (b == 32) [
      | true ↦ elim (c == 10) [ true ↦ Some bs | false ↦ elim (c == 13) [ true ↦ Some bs | false ↦ None ] ]
      | false ↦ elim (b == 13) [ true ↦ elim (c == 10) [ true ↦ Some bs | false ↦ None ] | false ↦ None ]
    ]

-- The offset of an entry in use, and what follows it.
abbrev pub entry_in : List ℕ → Option (ℕ × List ℕ)
entry_in bs = bind (natural (take 10 bs)) λ at. bind (after (codes " 00000 n") (drop 10 bs)) λ rest. bind (after_entry rest) λ more. Some (at, more)

-- Offsets, with what follows the entries.
abbrev pub Entries : Type 0
Entries = List ℕ × List ℕ

-- One offset more in front.
abbrev pub before : ℕ → Entries → Result Entries Fault
before at r = Ok (at ∷ r.0, r.1)

-- So many entries from entry n on, of a table at this offset in a file of this length.
abbrev pub entries_in : ℕ → ℕ → ℕ → ℕ → List ℕ → Result Entries Fault
entries_in zero n table size bs = Ok ([], bs)
entries_in (suc k) n table size bs =
    and_then (or_fault (entry_in bs) (fault kind.Table n table)) λ r.
    elim (nat_lt r.0 size) [ false ↦ Err (fault kind.Table n table) | true ↦ and_then (entries_in k (n + 1) table size r.1) (before r.0) ]

-- The count of entries that a table tells, and what follows the free entry.
abbrev pub count_in : List ℕ → Option (ℕ × List ℕ)
count_in bs =
    bind (after_line (codes "xref") bs) λ a.
    bind (after (codes "0 ") a) λ b.
    bind (shortest_number b) λ s.
    bind (after_line_end s.1) λ c.
    bind (after (codes "0000000000 65535 f") c) λ d.
    bind (after_entry d) λ rest.
    when (nat_le 2 s.0 && nat_le s.0 most_entries) (Some (s.0, rest))

-- The root that a trailer names, in a table of s entries, and what follows the trailer.
abbrev pub trailer_in : ℕ → List ℕ → Option (ℕ × List ℕ)
trailer_in s bs =
    bind (after_line (codes "trailer") bs) λ a.
    bind (after (codes "<< /Size ") a) λ b.
    bind (shortest_number b) λ n.
    bind (after (codes " /Root ") n.1) λ c.
    bind (shortest_number c) λ r.
    bind (after_line (codes " 0 R >>") r.1) λ rest.
    when (n.0 == s && (nat_le 1 r.0 && nat_lt r.0 s)) (Some (r.0, rest))

-- A table: the offsets of the objects from 1 on, and the number of the root.
pub record Index : Type 0 where
  pub offsets : List ℕ
  pub root : ℕ

-- The trailer, which the tail follows at once, gives the root.
abbrev pub index_by : ℕ → ℕ → Tail → Entries → Result Index Fault
index_by s table tail r =
    and_then (or_fault (trailer_in s r.1) (fault kind.Table 0 table)) λ t.
    elim (length t.1 == tail.size) [ false ↦ Err (fault kind.Table 0 table) | true ↦ Ok (record { offsets = r.0; root = t.0 }) ]

-- The table that a tail leads to.
abbrev pub index_at : List ℕ → Tail → Result Index Fault
index_at file tail =
    let table : ℕ = tail.table in
    and_then (or_fault (count_in (drop table file)) (fault kind.Table 0 table)) λ s.
    and_then (entries_in (s.0 - 1) 1 table (length file) s.1) (index_by s.0 table tail)

-- The token is this number.
abbrev pub is_nat : ℕ → Token → Bool
is_nat n (int z) = elim z [ pos m ↦ nat_eq m n | negsuc m ↦ false ]
is_nat n (name s) = false
is_nat n (word w) = false
is_nat n (text s) = false
is_nat n array_open = false
is_nat n array_close = false
is_nat n dict_open = false
is_nat n dict_close = false

-- What follows a token that passes a test.
abbrev pub after_token : (Token → Bool) → Option (Token × List ℕ) → Option (List ℕ)
after_token test None = None
after_token test (Some r) = when (test r.0) (Some r.1)

-- A regular byte stands first.
abbrev pub regular_first : List ℕ → Bool
regular_first [] = false
regular_first (b ∷ bs) = regular b

-- What follows `n 0 obj`, which stands in front with no white space before it.
unfoldable pub after_start : ℕ → List ℕ → Option (List ℕ)
after_start n bs =
    when (regular_first bs)
    (bind (after_token (is_nat n) (token bs)) λ a. bind (after_token (is_nat 0) (token a)) λ b. after_token (is_word (codes "obj")) (token b))

-- Each object from n on starts at its offset.
abbrev pub starts_from : ℕ → List ℕ → List ℕ → Result Unit Fault
starts_from n file [] = Ok tt
starts_from n file (at ∷ offsets) = and_then (or_fault (after_start n (drop at file)) (fault kind.Start n at)) λ _. starts_from (n + 1) file offsets

-- The index of a file whose header, tail, table and trailer are in order and whose objects start where it says; or the
-- first fault.
unfoldable pub index_of : List ℕ → Result Index Fault
index_of file =
    and_then (or_fault (after_line (codes "%PDF-1.7") file) (fault kind.Header 0 0)) λ _.
    and_then (or_fault (tail_of file) (fault kind.Table 0 (length file))) λ tail.
    and_then (index_at file tail) λ index.
    and_then (starts_from 1 file index.offsets) λ _. Ok index
