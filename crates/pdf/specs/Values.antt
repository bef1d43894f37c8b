-- Values: numbers, names, references, true, arrays and dictionaries, and how they are read.
use Rattle.std.specs.Prelude.{ℕ, zero, suc, Bool, true, false, cond, List, length, ℤ, pos, negsuc, Some, None, codes, Option, ◌==◌}
use Rattle.std.specs.Str.{bytes_eq}
use Rattle.pdf.specs.Tokens.{Token, int, name, word, text, array_open, array_close, dict_open, dict_close, token}

infixr 40 ◌◂◌
-- The values of an array one after another, and the entries of a dictionary, each a key and its value.
mutual
  pub data Value : Type 0 where
    number : ℤ → Value
    named : List ℕ → Value
    ref : ℕ → Value
    truth : Value
    array : Values → Value
    dict : Entries → Value

  pub data Values : Type 0 where
    none : Values
    ◌◂◌ : Value → Values → Values

  pub data Entries : Type 0 where
    end : Entries
    entry : List ℕ → Value → Entries → Entries

-- What a reader gave, and then a reader that goes on with it and with what was left.
abbrev pub then : {A B : Type 0} → Option (A × List ℕ) → (A → List ℕ → Option (B × List ℕ)) → Option (B × List ℕ)
then None f = None
then (Some r) f = f r.0 r.1

-- The token is this word.
abbrev pub is_word : List ℕ → Token → Bool
is_word w (int z) = false
is_word w (name bs) = false
is_word w (word bs) = bytes_eq bs w
is_word w (text bs) = false
is_word w array_open = false
is_word w array_close = false
is_word w dict_open = false
is_word w dict_close = false

-- The integer is 0.
abbrev pub zero_int : ℤ → Bool
zero_int (pos n) = n == 0
zero_int (negsuc n) = false

-- The token is the integer 0.
abbrev pub is_zero : Token → Bool
is_zero (int z) = zero_int z
is_zero (name bs) = false
is_zero (word bs) = false
is_zero (text bs) = false
is_zero array_open = false
is_zero array_close = false
is_zero dict_open = false
is_zero dict_close = false

-- What follows the word R, if that was read.
abbrev pub word_r : Option (Token × List ℕ) → Option (List ℕ)
word_r None = None
word_r (Some r) = cond (is_word (codes "R") r.0) (Some r.1) None

-- What follows `0 R`, if its 0 was read.
abbrev pub zero_r : Option (Token × List ℕ) → Option (List ℕ)
zero_r None = None
zero_r (Some r) = elim (is_zero r.0) [ false ↦ None | true ↦ word_r (token r.1) ]

-- What follows `0 R`, if these are the next two tokens.
abbrev pub ref_after : List ℕ → Option (List ℕ)
ref_after bs = zero_r (token bs)

-- A number that is not negative, or with `0 R` after it a reference.
abbrev pub number_or_ref : ℕ → List ℕ → Option (List ℕ) → Option (Value × List ℕ)
number_or_ref n bs None = Some (number (pos n), bs)
number_or_ref n bs (Some cs) = Some (ref n, cs)

-- The value that begins with an integer.
abbrev pub after_int : ℤ → List ℕ → Option (Value × List ℕ)
after_int (pos n) bs = number_or_ref n bs (ref_after bs)
after_int (negsuc n) bs = Some (number (negsuc n), bs)

-- How a reader of values goes on after the value's first token.
abbrev pub Reader : Type 0
Reader = Token → List ℕ → Option (Value × List ℕ)

-- A value that is neither an array nor a dictionary. A string is no value.
abbrev pub leaf : Reader
leaf (int z) bs = after_int z bs
leaf (name s) bs = Some (named s, bs)
leaf (word s) bs = cond (bytes_eq s (codes "true")) (Some (truth, bs)) None
leaf (text s) bs = None
leaf array_open bs = None
leaf array_close bs = None
leaf dict_open bs = None
leaf dict_close bs = None

-- One step through an array or a dictionary: it is at fault, it ends here, or one more stands here;
-- with what follows.
pub data Step (A : Type 0) : Type 0 where
  fault : Step A
  last : List ℕ → Step A
  one : A → List ℕ → Step A

-- One more, if it could be read.
abbrev pub one_more : {A : Type 0} → Option (A × List ℕ) → Step A
one_more None = fault
one_more (Some r) = one r.0 r.1

-- An array's next token: it closes the array, or begins a value.
abbrev pub item_at : Reader → Token → List ℕ → Step Value
item_at f (int z) bs = one_more (f (int z) bs)
item_at f (name s) bs = one_more (f (name s) bs)
item_at f (word s) bs = one_more (f (word s) bs)
item_at f (text s) bs = one_more (f (text s) bs)
item_at f array_open bs = one_more (f array_open bs)
item_at f array_close bs = last bs
item_at f dict_open bs = one_more (f dict_open bs)
item_at f dict_close bs = one_more (f dict_close bs)

-- An array's next step, if its next token could be read.
abbrev pub item_from : Reader → Option (Token × List ℕ) → Step Value
item_from f None = fault
item_from f (Some r) = item_at f r.0 r.1

-- An array's next step.
unfoldable pub item : Reader → List ℕ → Step Value
item f bs = item_from f (token bs)

-- The values of an array from a step on.
abbrev pub on_item : (List ℕ → Option (Values × List ℕ)) → Step Value → Option (Values × List ℕ)
on_item go fault = None
on_item go (last bs) = Some (none, bs)
on_item go (one v bs) = then (go bs) λ vs cs. Some (v ◂ vs, cs)

-- The values of an array up to its closing bracket, in at most so many steps, and what follows.
unfoldable pub items : Reader → ℕ → List ℕ → Option (Values × List ℕ)
items f zero bs = None
items f (suc k) bs = on_item (items f k) (item f bs)

-- A dictionary's entry of this key, if its value could be read.
abbrev pub keyed : List ℕ → Option (Value × List ℕ) → Step (List ℕ × Value)
keyed s None = fault
keyed s (Some r) = one (s, r.0) r.1

-- A dictionary's next token: it closes the dictionary, or is a key with its value after it.
abbrev pub field_at : Reader → Token → List ℕ → Step (List ℕ × Value)
field_at f (int z) bs = fault
field_at f (name s) bs = keyed s (then (token bs) f)
field_at f (word s) bs = fault
field_at f (text s) bs = fault
field_at f array_open bs = fault
field_at f array_close bs = fault
field_at f dict_open bs = fault
field_at f dict_close bs = last bs

-- A dictionary's next step, if its next token could be read.
abbrev pub field_from : Reader → Option (Token × List ℕ) → Step (List ℕ × Value)
field_from f None = fault
field_from f (Some r) = field_at f r.0 r.1

-- A dictionary's next step.
unfoldable pub field : Reader → List ℕ → Step (List ℕ × Value)
field f bs = field_from f (token bs)

-- The entries of a dictionary from a step on.
abbrev pub on_field : (List ℕ → Option (Entries × List ℕ)) → Step (List ℕ × Value) → Option (Entries × List ℕ)
on_field go fault = None
on_field go (last bs) = Some (end, bs)
on_field go (one e bs) = then (go bs) λ es cs. Some (entry e.0 e.1 es, cs)

-- The entries of a dictionary up to its closing brackets, in at most so many steps, and what follows.
unfoldable pub entries : Reader → ℕ → List ℕ → Option (Entries × List ℕ)
entries f zero bs = None
entries f (suc k) bs = on_field (entries f k) (field f bs)

-- What a value's first token opens.
pub data Opened : Type 0 where
  an_array : Opened
  a_dictionary : Opened
  nothing : Opened

-- Only the two opening tokens open something.
abbrev pub opens : Token → Opened
opens (int z) = nothing
opens (name s) = nothing
opens (word s) = nothing
opens (text s) = nothing
opens array_open = an_array
opens array_close = nothing
opens dict_open = a_dictionary
opens dict_close = nothing

-- A value, where f reads the values inside it. Each step takes a byte, so as many steps as bytes are enough.
abbrev pub within : Reader → Opened → Reader
within f nothing t bs = leaf t bs
within f an_array t bs = then (items f (length bs) bs) λ vs cs. Some (array vs, cs)
within f a_dictionary t bs = then (entries f (length bs) bs) λ es cs. Some (dict es, cs)

-- A value of which the first token is read, where arrays and dictionaries nest at most d deep.
unfoldable pub value_at : ℕ → Reader
value_at zero t bs = leaf t bs
value_at (suc d) t bs = within (value_at d) (opens t) t bs

-- The next value, where arrays and dictionaries nest at most d deep, and what follows it.
unfoldable pub value : ℕ → List ℕ → Option (Value × List ℕ)
value d bs = then (token bs) (value_at d)

-- How deep arrays and dictionaries of a file may nest; the outermost counts.
abbrev pub deepest : ℕ
deepest = 8
