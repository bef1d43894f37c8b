-- What is written after a value ends it, and makes no number a reference.
use Rattle.std.proofs.Common.{◌≡◌, ℕ, ◌<◌, true, false, ◌&&◌, List, ◌∷◌, ◌++◌, length, pos, None, codes, decimal, refl, append_assoc, arith, length-append, Some}
use Rattle.std.specs.Option.{IfSome}
use Rattle.std.proofs.lemmas.Bool.{and_parts}
use Rattle.pdf.specs.Bytes.{each, name_byte, stops}
use Rattle.pdf.specs.Tokens.{Token, int, name, word, token, written, writable}
use Rattle.pdf.specs.Values.{Value, number, named, ref, truth, array, dict, Values, none, ◌◂◌, Entries, end, entry, is_word, is_zero, ref_after}
use Rattle.pdf.specs.Written.{parting, render, render_items, render_entries, fine, fine_items, fine_entries}
use Rattle.pdf.specs.Lookups.{count_items, count_entries}
use Rattle.pdf.proofs.Numbers.{signed_any}
use Rattle.pdf.proofs.Tokens.{tokens_read_back}

-- The bytes end the token before them, and make no number a reference.
pub record Follows (rest : List ℕ) : Type 0 where
  pub ended : stops rest ≡ true
  pub apart : ref_after rest ≡ None

-- The next token of the bytes, if there is one, is not the word R.
abbrev NotR : List ℕ → Type 0
NotR bs = IfSome (token bs) λ r. is_word (codes "R") r.0 ≡ false

-- Bytes that do not begin with the word R, and are not taken for `0 R`.
abbrev Apart : List ℕ → Type 0
Apart bs = NotR bs × (ref_after bs ≡ None)

-- Nothing is taken for `0 R` that does not begin with 0, or does not go on with R.
token_apart : (t : Token) (rest : List ℕ) → writable t ≡ true → stops rest ≡ true → is_word (codes "R") t ≡ false → (is_zero t ≡ true → NotR rest) → Apart (written t ++ rest)
token_apart t rest w s o n = grind (arith, tokens_read_back t rest w s)

value_apart : (v : Value) (d : ℕ) (rest : List ℕ) → fine v d ≡ true → stops rest ≡ true → NotR rest → Apart (render v ++ rest)
unfolding token
value_apart (number z) d rest f s n = token_apart (int z) rest f s refl (λ _. n)
value_apart (named k) d rest f s n = token_apart (name k) rest f s refl (λ _. n)
value_apart (ref n) d rest f s _ = rw (append_assoc (decimal n) (codes " 0 R") rest) (token_apart (int (pos n)) (codes " 0 R" ++ rest) f refl refl (λ _. refl))
value_apart truth d rest f s n = token_apart (word (codes "true")) rest refl s refl (λ _. n)
value_apart (array vs) d rest f s n = (refl, refl)
value_apart (dict es) d rest f s n = (refl, refl)

-- What is written after a value of an array.
abbrev pub after_item : Values → List ℕ → List ℕ
after_item vs rest = (parting vs ++ render_items vs) ++ rest

after_ends : (vs : Values) (rest : List ℕ) → stops (after_item vs rest) ≡ true
after_ends none rest = refl
after_ends (v ◂ vs) rest = refl

after_apart : (vs : Values) (d : ℕ) (rest : List ℕ) → fine_items vs d ≡ true → Apart (after_item vs rest)
unfolding token
after_apart none d rest f = (refl, refl)
after_apart (v ◂ vs) d rest f =
    let p = and_parts (fine v d) (fine_items vs d) f in
    rw (append_assoc (render v) (parting vs ++ render_items vs) rest) (value_apart v d (after_item vs rest) p.0 (after_ends vs rest) (after_apart vs d rest p.1).0)

pub item_follows : (vs : Values) (d : ℕ) (rest : List ℕ) → fine_items vs d ≡ true → Follows (after_item vs rest)
item_follows vs d rest f = record { ended = after_ends vs rest; apart = (after_apart vs d rest f).1 }

-- A key as it is written in a dictionary is read.
pub key_read : (s tail : List ℕ) → each name_byte s ≡ true → stops tail ≡ true → token (32 ∷ 47 ∷ (s ++ tail)) ≡ Some (name s, tail)
unfolding token
key_read s tail h e = tokens_read_back (name s) tail h e

pub entry_follows : (es : Entries) (d : ℕ) (rest : List ℕ) → fine_entries es d ≡ true → Follows (render_entries es ++ rest)
unfolding token
entry_follows end d rest f = record { ended = refl; apart = refl }
entry_follows (entry s v es) d rest f =
    let tail : List ℕ = 32 ∷ (render v ++ render_entries es) in
    record { ended = refl; apart = rw (append_assoc s tail rest, key_read s (tail ++ rest) (and_parts (each name_byte s) (fine v d && fine_entries es d) f).0 refl) }

-- A value has at least one byte, so there are more bytes than values, and than entries.
render_any : (v : Value) (d : ℕ) → fine v d ≡ true → 0 < length (render v)
render_any (number z) d f = signed_any z f
render_any (ref n) d f = simp length-append (omega arith)
render_any v d f = omega arith

pub fewer_items : (vs : Values) (d : ℕ) → fine_items vs d ≡ true → count_items vs < length (render_items vs)
fewer_items none d f = omega arith
fewer_items (v ◂ vs) d f =
    let p = and_parts (fine v d) (fine_items vs d) f in
    simp length-append (omega (arith, fewer_items vs d p.1, render_any v d p.0))

pub fewer_entries : (es : Entries) → count_entries es < length (render_entries es)
fewer_entries end = omega arith
fewer_entries (entry s v es) = simp length-append (omega (arith, fewer_entries es))
