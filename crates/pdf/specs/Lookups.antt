-- What a value is, if it is of one kind, and the fields of a dictionary by their keys.
use Rattle.std.specs.Prelude.{ℕ, suc, Bool, true, false, cond, List, ℤ, pos, negsuc, Some, None, Option}
use Rattle.std.specs.Str.{bytes_eq}
use Rattle.pdf.specs.Values.{Value, number, named, ref, truth, array, dict, Values, none, ◌◂◌, Entries, end, entry}

-- The value of the first entry of this key.
abbrev pub field_in : List ℕ → Entries → Option Value
field_in key end = None
field_in key (entry s v es) = cond (bytes_eq s key) (Some v) (field_in key es)

-- How many entries there are.
abbrev pub count_entries : Entries → ℕ
count_entries end = 0
count_entries (entry s v es) = suc (count_entries es)

-- How many values there are.
abbrev pub count_items : Values → ℕ
count_items none = 0
count_items (v ◂ vs) = suc (count_items vs)

-- The object that a reference is to.
abbrev pub ref_of : Value → Option ℕ
ref_of (number z) = None
ref_of (named s) = None
ref_of (ref n) = Some n
ref_of truth = None
ref_of (array vs) = None
ref_of (dict es) = None

-- The number, if the value is one.
abbrev pub int_of : Value → Option ℤ
int_of (number z) = Some z
int_of (named s) = None
int_of (ref n) = None
int_of truth = None
int_of (array vs) = None
int_of (dict es) = None

-- The integer, if it is not negative.
abbrev pub not_negative : ℤ → Option ℕ
not_negative (pos n) = Some n
not_negative (negsuc n) = None

-- The number, if the value is one that is not negative.
abbrev pub nat_of : Value → Option ℕ
nat_of (number z) = not_negative z
nat_of (named s) = None
nat_of (ref n) = None
nat_of truth = None
nat_of (array vs) = None
nat_of (dict es) = None

-- The name, if the value is one.
abbrev pub name_of : Value → Option (List ℕ)
name_of (number z) = None
name_of (named s) = Some s
name_of (ref n) = None
name_of truth = None
name_of (array vs) = None
name_of (dict es) = None

-- The values of an array.
abbrev pub list_of : Value → Option Values
list_of (number z) = None
list_of (named s) = None
list_of (ref n) = None
list_of truth = None
list_of (array vs) = Some vs
list_of (dict es) = None

-- The entries of a dictionary.
abbrev pub dict_of : Value → Option Entries
dict_of (number z) = None
dict_of (named s) = None
dict_of (ref n) = None
dict_of truth = None
dict_of (array vs) = None
dict_of (dict es) = Some es

-- The value is true.
abbrev pub is_true : Value → Bool
is_true (number z) = false
is_true (named s) = false
is_true (ref n) = false
is_true truth = true
is_true (array vs) = false
is_true (dict es) = false
