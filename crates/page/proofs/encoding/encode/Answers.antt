-- What `encode` answers is what the definition says, so the laws of encoding hold of it.
use Rattle.std.proofs.Common.{◌≡◌, Some, sym, ◌∙◌, rules}
use Rattle.page.specs.Encoded.{encoded}
use Rattle.page.proofs.Undone.{decoded_back}
use Rattle.page.proofs.Ways.{encode_refused}
use Rattle.page.proofs.encoding.encode.Goals as goal

pub returns-in_err-payload-clause-refused : goal.returns-in_err-payload-clause-refused
returns-in_err-payload-clause-refused c = encode_refused c.args.word c.from_residual.result (search rules)

pub returns : goal.returns
returns c =
    let same : Some c.join.result ≡ encoded c.args.word = search rules in
    record {
      value = same;
      undone = λ n e. decoded_back c.args.word n (sym same ∙ e);
      refused = encode_refused c.args.word (Some c.join.result) same;
    }
