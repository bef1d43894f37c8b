use Rattle.std.proofs.Common.{arith}
use Rattle.sink.proofs.Grown.{writes_last, took, took_more, room_after, fits_not_refused}
use Rattle.store.specs.Stored.{stored}
use Rattle.store.proofs.Flats.{length_stored}
use Rattle.store.proofs.store.Goals as goal

pub returns-in_err-line : goal.returns-in_err-line
returns-in_err-line g c =
    let first = took c.number.ensures.puts (omega (arith, c.digits-head.ensures.value, c.room-room.ensures)) in
    let left = room_after first in
    absurd (fits_not_refused (omega (arith, c.digits-head.ensures.value, c.room-room.ensures)) c.line.ensures.puts c.in_err-line.was)

pub returns : goal.returns
unfolding stored
returns g c =
    let all = length_stored c.args.words.now in
    let first = took c.number.ensures.puts (omega (arith, c.digits-head.ensures.value, c.room-room.ensures)) in
    let left = room_after first in
    let second = took_more first (took c.line.ensures.puts (omega (arith, c.digits-head.ensures.value, c.room-room.ensures))) in
    writes_last _ _ _ (omega (arith, c.digits-head.ensures.value, c.room-room.ensures)) second c.put_words.ensures
