-- Steps through arrays and dictionaries, where what stands there was read.
use Rattle.std.proofs.Common.{◌≡◌, ℕ, zero, suc, true, List, ◌++◌, ℤ, pos, Some, None, codes, refl, ap, arith}
use Rattle.pdf.specs.Bytes.{stops}
use Rattle.pdf.specs.Tokens.{Token, int, name, word, array_close, token, written, writable}
use Rattle.pdf.specs.Values.{Value, number, ref, Values, ◌◂◌, Entries, entry, word_r, ref_after, number_or_ref, leaf, one, item_at, item, items, field, entries, opens, nothing, value_at, value}
use Rattle.pdf.proofs.Tokens.{tokens_read_back}

-- A token that opens nothing is read the same at every depth.
pub leaf_at : (d : ℕ) (t : Token) (bs : List ℕ) → opens t ≡ nothing → value_at d t bs ≡ leaf t bs
unfolding value_at
leaf_at zero t bs h = refl
leaf_at (suc d) t bs h = rw h

-- A token that opens nothing, written, is read as the value that it is.
pub leaf_token : (d : ℕ) (t : Token) (rest : List ℕ) → writable t ≡ true → stops rest ≡ true → opens t ≡ nothing → value d (written t ++ rest) ≡ leaf t rest
unfolding value
leaf_token d t rest w s o = rw (tokens_read_back t rest w s, leaf_at d t rest o)

-- A number with no `0 R` after it is a number.
pub number_alone : (z : ℤ) (rest : List ℕ) → ref_after rest ≡ None → leaf (int z) rest ≡ Some (number z, rest)
number_alone z rest h = grind arith

-- A number with `0 R` after it is a reference.
pub reference_whole : (n : ℕ) (rest : List ℕ) → stops rest ≡ true → leaf (int (pos n)) (codes " 0 R" ++ rest) ≡ Some (ref n, rest)
unfolding token
reference_whole n rest s = ap (λ x. number_or_ref n (codes " 0 R" ++ rest) (word_r x)) (tokens_read_back (word (codes "R")) rest refl s)

-- Where the token t begins a value, it is a step of an array: only a closing bracket is not, and that begins no value.
item_at-one : (d : ℕ) (t : Token) (bs : List ℕ) (v : Value) (cs : List ℕ) → value_at d t bs ≡ Some (v, cs) → item_at (value_at d) t bs ≡ one v cs
item_at-one d t bs v cs h = grind (arith, leaf_at d array_close bs refl)

-- Where a value is read, it is one step of an array.
pub item_one : (d : ℕ) (bs : List ℕ) (v : Value) (cs : List ℕ) → value d bs ≡ Some (v, cs) → item (value_at d) bs ≡ one v cs
unfolding value item
item_one d bs v cs h = grind (arith, item_at-one d)

-- Where a key and a value are read, they are one step of a dictionary.
pub field_one : (d : ℕ) (s : List ℕ) (v : Value) (bs cs ds : List ℕ) → token bs ≡ Some (name s, cs) → value d cs ≡ Some (v, ds) → field (value_at d) bs ≡ one (s, v) ds
unfolding value field
field_one d s v bs cs ds p q = rw (p, q)

-- Where a value and then the rest of an array are read, all of it is.
pub items_more : (d k : ℕ) (bs : List ℕ) (v : Value) (cs : List ℕ) (vs : Values) (ds : List ℕ) → value d bs ≡ Some (v, cs) → items (value_at d) k cs ≡ Some (vs, ds) → items (value_at d) (suc k) bs ≡ Some (v ◂ vs, ds)
unfolding items
items_more d k bs v cs vs ds p q = rw (item_one d bs v cs p, q)

-- Where a key, its value and then the rest of a dictionary are read, all of it is.
pub entries_more : (d k : ℕ) (s : List ℕ) (v : Value) (bs cs ds : List ℕ) (es : Entries) (rest : List ℕ) → token bs ≡ Some (name s, cs) → value d cs ≡ Some (v, ds) → entries (value_at d) k ds ≡ Some (es, rest) → entries (value_at d) (suc k) bs ≡ Some (entry s v es, rest)
unfolding entries
entries_more d k s v bs cs ds es rest p q r = rw (field_one d s v bs cs ds p q, r)
