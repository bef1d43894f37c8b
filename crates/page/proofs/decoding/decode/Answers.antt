-- What `decode` answers is what the definition says, so the laws of decoding hold of it.
use Rattle.std.proofs.Common.{◌≡◌, sym, subst, rules}
use Rattle.page.specs.Decoded.{decoded}
use Rattle.page.proofs.Ways.{Lawful, lawful}
use Rattle.page.proofs.decoding.decode.Goals as goal

pub returns : goal.returns
returns c =
    let same : c.read.result ≡ decoded c.args.word = search rules in
    let laws = subst (λ r. Lawful c.args.word r) (sym same) (lawful c.args.word) in
    record {
      value = same;
      undone = laws.undone;
      kind = laws.kind;
      refusals = laws.refusals;
    }
