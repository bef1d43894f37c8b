-- The kind of a number is found in the list of all.
use Rattle.std.proofs.Common.{◌≡◌, ap, sym, ◌∙◌, subst, rules}
use Rattle.std.specs.Option.{ok_or}
use Rattle.std.specs.Prelude.{slice_get}
use Rattle.page.specs.declared.types.TheConstants.Kind.{ALL}
use Rattle.page.specs.declared.types.Refusal.TheVariants as refusal
use Rattle.page.specs.Numbers.{IsCaseAt, kind_at, kind_number}
use Rattle.page.proofs.Tables.{all_at, kind_found}
use Rattle.page.proofs.numbers.KindTryFromU32.try_from.Goals as goal

pub returns : goal.returns
returns c =
    let got : c.copied.result ≡ slice_get ALL c.args.number = search rules in
    let same : c.ok_or.result ≡ ok_or (kind_at c.args.number) refusal.Kind = c.ok_or.ensures.value ∙ ap (λ o. ok_or o refusal.Kind) (got ∙ all_at c.args.number) in
    subst (IsCaseAt kind_at kind_number refusal.Kind c.args.number) (sym same) (kind_found c.args.number)
