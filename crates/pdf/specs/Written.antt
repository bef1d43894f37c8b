-- How values are written, and which values have a written form.
use Rattle.std.specs.Prelude.{ℕ, zero, suc, Bool, true, false, ◌&&◌, List, [], ◌∷◌, ◌++◌, codes, decimal, nat_le}
use Rattle.std.specs.Fmt.{signed_decimal}
use Rattle.pdf.specs.Bytes.{each, name_byte}
use Rattle.pdf.specs.Numbers.{greatest, in_range}
use Rattle.pdf.specs.Values.{Value, number, named, ref, truth, array, dict, Values, none, ◌◂◌, Entries, end, entry}

-- The space before an array's values, if they come after another.
abbrev pub parting : Values → List ℕ
parting none = []
parting (v ◂ vs) = 32 ∷ []

-- How a value is written: references as `n 0 R`; the values of an array parted by a space; a dictionary as
-- `<< /Key value /Key value >>`, or `<< >>`.
abbrev mutual
  pub render : Value → List ℕ
  render (number z) = signed_decimal z
  render (named s) = 47 ∷ s
  render (ref n) = decimal n ++ codes " 0 R"
  render truth = codes "true"
  render (array vs) = 91 ∷ render_items vs
  render (dict es) = 60 ∷ 60 ∷ render_entries es

  pub render_items : Values → List ℕ
  render_items none = 93 ∷ []
  render_items (v ◂ vs) = render v ++ (parting vs ++ render_items vs)

  pub render_entries : Entries → List ℕ
  render_entries end = codes " >>"
  render_entries (entry s v es) = 32 ∷ 47 ∷ (s ++ (32 ∷ (render v ++ render_entries es)))

-- The test passes one level further in.
abbrev pub inside : (ℕ → Bool) → ℕ → Bool
inside p zero = false
inside p (suc d) = p d

-- A value has a written form and nests at most d deep: its numbers are in range, and its names and keys
-- have only bytes that may stand in a name.
abbrev mutual
  pub fine : Value → ℕ → Bool
  fine (number z) d = in_range z
  fine (named s) d = each name_byte s
  fine (ref n) d = nat_le n greatest
  fine truth d = true
  fine (array vs) d = inside (fine_items vs) d
  fine (dict es) d = inside (fine_entries es) d

  pub fine_items : Values → ℕ → Bool
  fine_items none d = true
  fine_items (v ◂ vs) d = fine v d && fine_items vs d

  pub fine_entries : Entries → ℕ → Bool
  fine_entries end d = true
  fine_entries (entry s v es) d = each name_byte s && (fine v d && fine_entries es d)
