-- The bytes of some words, word by word.
use Rattle.std.proofs.Common.{◌≡◌, ℕ, ◌+◌, ◌*◌, ◌<◌, List, [], ◌∷◌, ◌++◌, length, get_or, take, codes, decimal, sym, ap, ◌∙◌, arith, length-append}
use Rattle.std.proofs.lemmas.List.{take_more}
use Rattle.std.proofs.lemmas.Grind.{flat_map-append}
use Rattle.flash.specs.Words.{word_bytes, flat}
use Rattle.flash.proofs.Packs.{length_flat}
use Rattle.store.specs.Stored.{stored}

-- one word more
pub flat_more : (ws : List ℕ) (i : ℕ) → i < length ws → flat (take i ws) ++ word_bytes (get_or ws i 0) ≡ flat (take (i + 1) ws)
flat_more ws i h = sym (flat_map-append word_bytes (take i ws) (get_or ws i 0 ∷ [])) ∙ ap flat (sym (take_more ws i 0 h))

-- how many bytes are stored
pub length_stored : (ws : List ℕ) → length (stored ws) ≡ length (decimal (length ws)) + 7 + 4 * length ws
unfolding stored
length_stored ws = length-append (decimal (length ws) ++ codes " words\n") (flat ws) ∙ omega (arith, length-append (decimal (length ws)) (codes " words\n"), length_flat ws)
