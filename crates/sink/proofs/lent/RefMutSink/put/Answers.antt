use Rattle.sink.proofs.Grown.{puts_lent}
use Rattle.sink.proofs.lent.RefMutSink.put.Goals as goal

pub returns : goal.returns
returns g c = record {
  puts = puts_lent _ _ _ _ _ c.put.ensures.puts;
  stays = c.put.ensures.stays;
}
