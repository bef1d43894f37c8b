use Rattle.std.proofs.Common.{◌≡◌, ℕ, ◌-◌, ◌/◌, ◌<◌, ◌≤◌, List, length, take, ap, arith, length-take, take_all}
use Rattle.sink.proofs.Grown.{writes_taken, took, took_more, room_after, fits_not_refused}
use Rattle.flash.specs.Words.{flat}
use Rattle.flash.proofs.Packs.{length_flat}
use Rattle.store.proofs.Flats.{flat_more}
use Rattle.store.proofs.put_words.Goals as goal

-- there is room for one word more
room_for_one : (ws : List ℕ) (i room left : ℕ) → i < length ws → length ws ≤ room / 4 → left ≡ room - length (flat (take i ws)) → 4 ≤ left
room_for_one ws i room left some fits is = omega (arith, length_flat (take i ws), length-take i ws)

pub returns-in_err-put : goal.returns-in_err-put
returns-in_err-put g c =
    let ws = c.args.words.now in
    let left = room_after c.loop-word.invariant in
    let one = room_for_one ws c.loop-word.word-index _ _ c.loop-word-test.true (omega (arith, c.room.ensures)) left in
    absurd (fits_not_refused (omega (arith, ap length c.to_be_bytes.ensures)) c.put.ensures.puts c.in_err-put.was)

pub loop-word-preserved : goal.loop-word-preserved
loop-word-preserved g c =
    let ws = c.args.words.now in
    let i = c.loop-word.word-index in
    let left = room_after c.loop-word.invariant in
    let one = room_for_one ws i _ _ c.loop-word-test.true (omega (arith, c.room.ensures)) left in
    let more = took_more c.loop-word.invariant (took c.put.ensures.puts (omega (arith, ap length c.to_be_bytes.ensures))) in
    rw (flat_more ws i c.loop-word-test.true) at (rw c.to_be_bytes.ensures at more)

pub returns : goal.returns
returns g c =
    let all = take_all _ c.args.words.now c.loop-word-test.false in
    writes_taken _ _ (omega (arith, length_flat c.args.words.now, c.room.ensures)) (rw all at c.loop-word.invariant)
