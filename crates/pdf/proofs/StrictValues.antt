-- Every token and value that is read has a written form, and can be read again.
use Rattle.std.proofs.Common.{◌≡◌, ℕ, true, [], Some, sym, refl, ap, ◌∙◌}
use Rattle.std.proofs.lemmas.List.{append-nil}
use Rattle.pdf.specs.Tokens.{token}
use Rattle.pdf.specs.Values.{Value, value}
use Rattle.pdf.specs.Written.{fine, render}
use Rattle.pdf.specs.Laws.{ReadingIsStrict}
use Rattle.pdf.proofs.Lexing.{token_gives}
use Rattle.pdf.proofs.Taking.{value_gives}
use Rattle.pdf.proofs.Values.{values_read_back}

written_again : (d : ℕ) (v : Value) → fine v d ≡ true → value d (render v) ≡ Some (v, [])
unfolding token
written_again d v h = ap (value d) (sym (append-nil (render v))) ∙ values_read_back v d [] h refl refl

pub reading_is_strict : ReadingIsStrict
reading_is_strict =
    record {
      of_token = λ bs t rest h. (rw h at (token_gives bs)).0;
      of_value = λ d bs v rest h. (rw h at (value_gives d bs)).0;
      again = λ d bs v rest h. written_again d v (rw h at (value_gives d bs)).0;
    }
