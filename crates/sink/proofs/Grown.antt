-- Laws of put: one text after another, refusals, and loans.
use Rattle.std.proofs.Common.{◌≡◌, ℕ, ◌-◌, ◌<◌, ◌≤◌, cond, List, [], ◌++◌, length, get_or, take, drop, is_ok, Ok, Err, Result, sym, refl, ap, ◌∙◌, append_assoc, arith, length-append, take-append-drop, take_all}
use Rattle.std.proofs.lemmas.List.{drop-drop, append-nil}
use Rattle.std.proofs.lemmas.Bool.Decides.{nat_tests}
use Rattle.sink.specs.declared.refusal.Refusal.{Refusal}
use Rattle.sink.specs.declared.refusal.Refusal.TheVariants.{Full}
use Rattle.sink.specs.Meaning.{View, Lawful, grown, Puts, Took, StaysIfRefused, Writes, lent}

-- a view is its parts
pub same_view : {b b' : List ℕ} {r r' : ℕ} {y y' o o' : List ℕ} → b ≡ b' → r ≡ r' → y ≡ y' → o ≡ o' → ◌≡◌ {A = View} (record { bytes = b; room = r; beyond = y; loans = o }) (record { bytes = b'; room = r'; beyond = y'; loans = o' })
same_view eb er ey eo = cc

pub grown_grown : (v : View) (a b : List ℕ) → grown (grown v a) b ≡ grown v (a ++ b)
unfolding grown
grown_grown v a b =
    same_view (append_assoc v.bytes a b) (omega (arith, length-append a b)) (drop-drop (length b) (length a) v.beyond ∙ ap (λ n. drop n v.beyond) (sym (length-append a b))) refl

pub grown_none : (v : View) → grown v [] ≡ v
unfolding grown
grown_none v = same_view (append-nil v.bytes) (omega arith) refl refl

-- a text that has room is taken
pub puts_taken : {text : List ℕ} {v w : View} → length text ≤ v.room → w ≡ grown v text → Puts (Ok tt) text v w
puts_taken {text} {v} {w} fits is = record { answers = grind (arith, nat_tests); number = tt; leaves = is }

-- a text that has no room is refused
pub puts_refused : {text : List ℕ} {v : View} → v.room < length text → Puts (Err Full) text v v
puts_refused {text} {v} more = record { answers = grind (arith, nat_tests); number = refl; leaves = refl }

-- a put that is taken is not refused, and one that changes nothing leaves all as it was
pub stays_if_taken : {held held' : ℕ} {memory memory' : List ℕ} → StaysIfRefused (Ok tt) held held' memory memory'
stays_if_taken = record { held_stays = λ bad. cc; memory_stays = λ bad. cc }

pub stays_same : {r : Result Unit Refusal} {held : ℕ} {memory : List ℕ} → StaysIfRefused r held held memory memory
stays_same = record { held_stays = λ _. refl; memory_stays = λ _. refl }

-- a text that has room is never refused
pub fits_ok : {r : Result Unit Refusal} {text : List ℕ} {v w : View} → length text ≤ v.room → Puts r text v w → r ≡ Ok tt
fits_ok {r} {text} {v} {w} h p = p.answers ∙ grind (arith, nat_tests)

pub stays_if_fits : {r : Result Unit Refusal} {text : List ℕ} {v w : View} {held held' : ℕ} {memory memory' : List ℕ} → length text ≤ v.room → Puts r text v w → StaysIfRefused r held held' memory memory'
stays_if_fits {r} {text} {v} {w} h p = let ok = fits_ok h p in rw ok stays_if_taken

-- what a put that was taken leaves
pub took : {r : Result Unit Refusal} {text : List ℕ} {v w : View} → Puts r text v w → length text ≤ v.room → Took text v w
took {r} {text} {v} {w} p h = let ok = fits_ok h p in record { is = p.leaves ∙ rw ok }

-- a call that puts a text: it is refused, it is taken, or it puts the last of several that have room together
pub writes_refused : {S : Type 0} {view : S → View} {held : S → ℕ} {memory : S → List ℕ} {text : List ℕ} (s : S) → (view s).room < length text → Writes view held memory (Err Full) text s s
writes_refused s more = record { puts = puts_refused more; stays = stays_same }

pub writes_taken : {S : Type 0} {view : S → View} {held : S → ℕ} {memory : S → List ℕ} {text : List ℕ} (s t : S) → length text ≤ (view s).room → Took text (view s) (view t) → Writes view held memory (Ok tt) text s t
writes_taken s t fits took = record { puts = puts_taken fits took.is; stays = stays_if_taken }

-- no text, and one text more
pub took_none : (v : View) → Took [] v v
took_none v = record { is = sym (grown_none v) }

pub took_more : {a b : List ℕ} {v w u : View} → Took a v w → Took b w u → Took (a ++ b) v u
took_more {a} {b} {v} {w} {u} e f = record { is = f.is ∙ rw e.is (grown_grown v a b) }

pub room_after : {a : List ℕ} {v w : View} → Took a v w → w.room ≡ v.room - length a
unfolding grown
room_after {a} {v} {w} t = ap (λ (x : View). x.room) t.is

-- the last text of several that have room together
pub puts_then : {r : Result Unit Refusal} {a b : List ℕ} {v w u : View} → length (a ++ b) ≤ v.room → Took a v w → Puts r b w u → Puts r (a ++ b) v u
puts_then {r} {a} {b} {v} {w} {u} h t p =
    let l = length-append a b in
    let left = room_after t in
    let short : length b ≤ w.room = omega arith in
    let ok : r ≡ Ok tt = fits_ok short p in
    rw ok (puts_taken h (took_more t (took p short)).is)

pub writes_last : {S : Type 0} {view : S → View} {held : S → ℕ} {memory : S → List ℕ} {r : Result Unit Refusal} {a b : List ℕ} (s t u : S) → length (a ++ b) ≤ (view s).room → Took a (view s) (view t) → Writes view held memory r b t u → Writes view held memory r (a ++ b) s u
writes_last s t u fits first rest =
    let whole = puts_then fits first rest.puts in
    record { puts = whole; stays = stays_if_fits fits whole }

-- a text that has room is not refused
pub fits_not_refused : {r : Result Unit Refusal} {e : Refusal} {text : List ℕ} {v w : View} → length text ≤ v.room → Puts r text v w → r ≡ Err e → ⊥
fits_not_refused h p err = let ok = fits_ok h p in cc

-- it stands over the same memory
pub puts_loans : (r : Result Unit Refusal) {text : List ℕ} {v w : View} → Puts r text v w → w.loans ≡ v.loans
unfolding grown
puts_loans (Ok x) {text} {v} {w} p = ap (λ (y : View). y.loans) p.leaves
puts_loans (Err e) {text} {v} {w} p = ap (λ (y : View). y.loans) p.leaves

-- the whole memory after a put, once nothing is held back
pub puts_whole : (r : Result Unit Refusal) {text : List ℕ} {v w : View} → Puts r text v w → w.bytes ++ w.beyond ≡ cond (is_ok r) ((v.bytes ++ text) ++ drop (length text) v.beyond) (v.bytes ++ v.beyond)
unfolding grown
puts_whole (Ok x) {text} {v} {w} p = ap (λ (y : View). y.bytes ++ y.beyond) p.leaves
puts_whole (Err e) {text} {v} {w} p = ap (λ (y : View). y.bytes ++ y.beyond) p.leaves

-- a settled sink's memory is its bytes and then what lies beyond
pub settled_memory : {v : View} {held : ℕ} {memory : List ℕ} → Lawful v held memory → held ≡ 0 → memory ≡ v.bytes ++ v.beyond
settled_memory {v} {held} {memory} l none =
    let n = length v.bytes in
    let all : n - held ≡ n = omega arith in
    let front : take n memory ≡ v.bytes = (rw all at l.stored) ∙ take_all n v.bytes (omega arith) in
    sym (take-append-drop n memory) ∙ rw (front, l.untouched)

-- through a loan, and back
pub lent_grown : (n : ℕ) (v : View) (text : List ℕ) → lent n (grown v text) ≡ grown (lent n v) text
unfolding grown
lent_grown n v text = refl

pub unlent : {n m : ℕ} {v w : View} → lent n v ≡ lent m w → v ≡ w
unlent {n} {m} {v} {w} e i = record { bytes = (e i).bytes; room = (e i).room; beyond = (e i).beyond; loans = drop 1 (e i).loans }

pub puts_lent : (n : ℕ) (r : Result Unit Refusal) (text : List ℕ) (v w : View) → Puts r text v w → Puts r text (lent n v) (lent n w)
puts_lent n (Ok x) text v w p = record { answers = p.answers; number = p.number; leaves = ap (lent n) p.leaves ∙ lent_grown n v text }
puts_lent n (Err e) text v w p = record { answers = p.answers; number = p.number; leaves = ap (lent n) p.leaves }

pub same_lender : (n m : ℕ) (r : Result Unit Refusal) (text : List ℕ) (v w : View) → Puts r text (lent n v) (lent m w) → n ≡ m
same_lender n m r text v w p = sym (ap (λ xs. get_or xs 0 0) (puts_loans r p))

pub puts_unlent : (n m : ℕ) (r : Result Unit Refusal) (text : List ℕ) (v w : View) → Puts r text (lent n v) (lent m w) → Puts r text v w
puts_unlent n m (Ok x) text v w p = record { answers = p.answers; number = p.number; leaves = unlent (p.leaves ∙ sym (lent_grown n v text)) }
puts_unlent n m (Err e) text v w p = record { answers = p.answers; number = p.number; leaves = unlent p.leaves }
