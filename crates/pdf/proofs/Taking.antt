-- Each value that is read takes at least one byte and has a written form, and steps through arrays and dictionaries suffice.
use Rattle.std.proofs.Common.{◌≡◌, ℕ, zero, suc, ◌<◌, ◌≤◌, Bool, true, ◌&&◌, List, length, Some, None, Option, refl, arith}
use Rattle.std.specs.Option.{IfSome}
use Rattle.pdf.specs.Bytes.{each, name_byte}
use Rattle.pdf.specs.Tokens.{Token, token, writable}
use Rattle.pdf.specs.Values.{Value, Values, Entries, then, zero_r, leaf, Reader, Step, fault, last, one, item_at, item, items, field_at, field, entries, Opened, opens, within, value_at, value}
use Rattle.pdf.specs.Written.{fine, fine_items, fine_entries}
use Rattle.pdf.specs.Laws.{ReadingTakesBytes}
use Rattle.pdf.proofs.Lexing.{Gives, token_gives}

zero_below : (o : Option (Token × List ℕ)) (n : ℕ) → Gives writable o n → IfSome (zero_r o) λ cs. length cs < n
zero_below None n h = tt
zero_below (Some r) n h = grind (arith, token_gives r.1)

-- Values that are fine at the depth d, and fields, items and entries that are.
abbrev fine_at : ℕ → Value → Bool
fine_at d v = fine v d

abbrev fine_field : ℕ → List ℕ × Value → Bool
fine_field d e = each name_byte e.0 && fine e.1 d

abbrev fine_items_at : ℕ → Values → Bool
fine_items_at d vs = fine_items vs d

abbrev fine_entries_at : ℕ → Entries → Bool
fine_entries_at d es = fine_entries es d

-- A reader that goes on after a token: what it gives is fine at the depth d, and it leaves no more than it was given.
abbrev Reads : ℕ → Reader → Type 0
Reads d f = (t : Token) (bs : List ℕ) → writable t ≡ true → Gives (fine_at d) (f t bs) (suc (length bs))

leaf_gives : (d : ℕ) → Reads d leaf
leaf_gives d t bs w = grind (arith, zero_below (token bs) (length bs) (token_gives bs))

value_by_gives : (d : ℕ) (f : Reader) → Reads d f → (bs : List ℕ) → Gives (fine_at d) (then (token bs) f) (length bs)
value_by_gives d f on bs = grind (arith, token_gives bs, on)

-- What stands at a step, if anything, passes the test, and what it leaves is shorter than n.
abbrev Sound : {A : Type 0} → (A → Bool) → Step A → ℕ → Type 0
Sound p fault n = Unit {0}
Sound p (last bs) n = length bs < n
Sound p (one a bs) n = (p a ≡ true) × (length bs < n)

item_at_sound : (d : ℕ) (f : Reader) → Reads d f → (t : Token) (bs : List ℕ) → writable t ≡ true → Sound (fine_at d) (item_at f t bs) (suc (length bs))
item_at_sound d f on t bs w = grind (arith, on t bs)

item_sound : (d : ℕ) (f : Reader) → Reads d f → (bs : List ℕ) → Sound (fine_at d) (item f bs) (length bs)
unfolding item
item_sound d f on bs = grind (arith, token_gives bs, item_at_sound d f on)

field_at_sound : (d : ℕ) (f : Reader) → Reads d f → (t : Token) (bs : List ℕ) → writable t ≡ true → Sound (fine_field d) (field_at f t bs) (suc (length bs))
field_at_sound d f on t bs w = grind (arith, value_by_gives d f on bs)

field_sound : (d : ℕ) (f : Reader) → Reads d f → (bs : List ℕ) → Sound (fine_field d) (field f bs) (length bs)
unfolding field
field_sound d f on bs = grind (arith, token_gives bs, field_at_sound d f on)

-- A row of steps gives what is fine and takes a byte; and with as many steps as bytes it has enough.
-- (Items and entries apart: one lemma over both would have to be told how each row ends, goes on and is tested, and is twice as long.)
items_give : (d : ℕ) (f : Reader) → Reads d f → (k : ℕ) (bs : List ℕ) → Gives (fine_items_at d) (items f k bs) (suc (length bs))
unfolding items
items_give d f on zero bs = tt
items_give d f on (suc k) bs = grind (arith, item_sound d f on bs, items_give d f on k)

entries_give : (d : ℕ) (f : Reader) → Reads d f → (k : ℕ) (bs : List ℕ) → Gives (fine_entries_at d) (entries f k bs) (suc (length bs))
unfolding entries
entries_give d f on zero bs = tt
entries_give d f on (suc k) bs = grind (arith, field_sound d f on bs, entries_give d f on k)

items_enough : (d : ℕ) (f : Reader) → Reads d f → (j k : ℕ) (bs : List ℕ) → length bs ≤ j → length bs ≤ k → items f j bs ≡ items f k bs
unfolding items
items_enough d f on zero zero bs h i = refl
items_enough d f on zero (suc k) bs h i = grind (arith, item_sound d f on bs)
items_enough d f on (suc j) zero bs h i = grind (arith, item_sound d f on bs)
items_enough d f on (suc j) (suc k) bs h i = grind (arith, item_sound d f on bs, items_enough d f on j k)

entries_enough : (d : ℕ) (f : Reader) → Reads d f → (j k : ℕ) (bs : List ℕ) → length bs ≤ j → length bs ≤ k → entries f j bs ≡ entries f k bs
unfolding entries
entries_enough d f on zero zero bs h i = refl
entries_enough d f on zero (suc k) bs h i = grind (arith, field_sound d f on bs)
entries_enough d f on (suc j) zero bs h i = grind (arith, field_sound d f on bs)
entries_enough d f on (suc j) (suc k) bs h i = grind (arith, field_sound d f on bs, entries_enough d f on j k)

within_gives : (d : ℕ) (f : Reader) → Reads d f → (o : Opened) → Reads (suc d) (within f o)
within_gives d f on o t bs w = grind (arith, leaf_gives (suc d) t bs w, items_give d f on (length bs) bs, entries_give d f on (length bs) bs)

value_at_gives : (d : ℕ) → Reads d (value_at d)
unfolding value_at
value_at_gives zero = leaf_gives zero
value_at_gives (suc d) = λ t bs. within_gives d (value_at d) (value_at_gives d) (opens t) t bs

pub value_gives : (d : ℕ) (bs : List ℕ) → Gives (fine_at d) (value d bs) (length bs)
unfolding value
value_gives d bs = value_by_gives d (value_at d) (value_at_gives d) bs

pub reading_takes_bytes : ReadingTakesBytes
reading_takes_bytes =
    record {
      by_token = λ bs t rest h. (rw h at (token_gives bs)).1;
      by_value = λ d bs v rest h. (rw h at (value_gives d bs)).1;
      steps_of_items = λ d k bs h. items_enough d (value_at d) (value_at_gives d) k (length bs) bs h (omega arith);
      steps_of_entries = λ d k bs h. entries_enough d (value_at d) (value_at_gives d) k (length bs) bs h (omega arith);
    }
