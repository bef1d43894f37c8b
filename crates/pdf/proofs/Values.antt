-- Values that are written are read back.
use Rattle.std.proofs.Common.{◌≡◌, ℕ, zero, suc, ◌<◌, true, ◌&&◌, List, ◌∷◌, ◌++◌, length, pos, Some, codes, decimal, refl, ap, ◌∙◌, append_assoc, arith, length-append}
use Rattle.std.proofs.lemmas.Bool.{and_parts}
use Rattle.pdf.specs.Bytes.{each, name_byte}
use Rattle.pdf.specs.Tokens.{int, name, word, token}
use Rattle.pdf.specs.Values.{Value, number, named, ref, truth, array, dict, Values, none, ◌◂◌, Entries, end, entry, item, items, field, entries, Reader, value_at, value}
use Rattle.pdf.specs.Written.{parting, render, render_items, render_entries, fine, fine_items, fine_entries}
use Rattle.pdf.specs.Lookups.{count_items, count_entries}
use Rattle.pdf.specs.Laws.{ValuesReadBack}
use Rattle.pdf.proofs.Steps.{leaf_token, number_alone, reference_whole, items_more, entries_more}
use Rattle.pdf.proofs.Follows.{Follows, after_item, item_follows, key_read, entry_follows, fewer_items, fewer_entries}

-- The space between values of an array does not matter.
items_space : (f : Reader) (k : ℕ) (vs : Values) (rest : List ℕ) → items f k (after_item vs rest) ≡ items f k (render_items vs ++ rest)
unfolding items item token
items_space f k none rest = refl
items_space f zero (v ◂ vs) rest = refl
items_space f (suc k) (v ◂ vs) rest = refl

mutual
  unfolding items item entries field value value_at token

  read_back : (v : Value) (d : ℕ) (rest : List ℕ) → fine v d ≡ true → Follows rest → value d (render v ++ rest) ≡ Some (v, rest)
  read_back (number z) d rest f h = leaf_token d (int z) rest f h.ended refl ∙ number_alone z rest h.apart
  read_back (named k) d rest f h = leaf_token d (name k) rest f h.ended refl
  read_back (ref n) d rest f h = rw (append_assoc (decimal n) (codes " 0 R") rest) (leaf_token d (int (pos n)) (codes " 0 R" ++ rest) f refl refl ∙ reference_whole n rest h.ended)
  read_back truth d rest f h = leaf_token d (word (codes "true")) rest refl h.ended refl
  read_back (array vs) zero rest f h = cc
  read_back (array vs) (suc d) rest f h = rw (items_read_back vs d (length (render_items vs ++ rest)) rest f (simp length-append (omega (arith, fewer_items vs d f))))
  read_back (dict es) zero rest f h = cc
  read_back (dict es) (suc d) rest f h = rw (entries_read_back es d (length (render_entries es ++ rest)) rest f (simp length-append (omega (arith, fewer_entries es))))

  items_read_back : (vs : Values) (d k : ℕ) (rest : List ℕ) → fine_items vs d ≡ true → count_items vs < k → items (value_at d) k (render_items vs ++ rest) ≡ Some (vs, rest)
  items_read_back vs d zero rest f h = absurd (omega arith)
  items_read_back none d (suc k) rest f h = refl
  items_read_back (v ◂ vs) d (suc k) rest f h =
      let p = and_parts (fine v d) (fine_items vs d) f in
      rw (append_assoc (render v) (parting vs ++ render_items vs) rest)
      (items_more d k (render v ++ after_item vs rest) v (after_item vs rest) vs rest (read_back v d (after_item vs rest) p.0 (item_follows vs d rest p.1)) (items_space (value_at d) k vs rest ∙ items_read_back vs d k rest p.1 (omega arith)))

  entries_read_back : (es : Entries) (d k : ℕ) (rest : List ℕ) → fine_entries es d ≡ true → count_entries es < k → entries (value_at d) k (render_entries es ++ rest) ≡ Some (es, rest)
  entries_read_back es d zero rest f h = absurd (omega arith)
  entries_read_back end d (suc k) rest f h = refl
  entries_read_back (entry s v es) d (suc k) rest f h =
      let p = and_parts (each name_byte s) (fine v d && fine_entries es d) f in
      let q = and_parts (fine v d) (fine_entries es d) p.1 in
      let more : List ℕ = render_entries es ++ rest in
      let tail : List ℕ = 32 ∷ (render v ++ render_entries es) in
      let e : value d (tail ++ rest) ≡ Some (v, more) = ap (value d) (append_assoc (render v) (render_entries es) rest) ∙ read_back v d more q.0 (entry_follows es d rest q.1) in
      rw (append_assoc s tail rest) (entries_more d k s v (32 ∷ 47 ∷ (s ++ (tail ++ rest))) (tail ++ rest) more es rest (key_read s (tail ++ rest) p.0 refl) e (entries_read_back es d k rest q.1 (omega arith)))

pub values_read_back : ValuesReadBack
values_read_back v d rest f s a = read_back v d rest f (record { ended = s; apart = a })
