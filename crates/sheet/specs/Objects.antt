-- The objects of a file, each by what its role asks: exactly the keys that are shown for it, each once, in any order.
use Rattle.std.specs.Prelude.{ℕ, ◌-◌, Bool, true, false, ◌&&◌, List, [], ◌∷◌, length, drop, ℤ, Some, None, codes, Option, Result, ◌==◌, nat_le, slice_index}
use Rattle.std.specs.Str.{bytes_eq}
use Rattle.page.specs.declared.types.ElementType.{ElementType}
use Rattle.page.specs.declared.types.ElementType.TheVariants.{Document, Part, Sect, P, H1, H2, L, LI, Figure, Caption}
use Rattle.page.specs.Fields.{is_side}
use Rattle.page.specs.Numbers.{name_of}
use Rattle.pdf.specs.Lookups.{field_in, count_entries, ref_of, int_of, nat_of, list_of, dict_of, is_true}
use Rattle.pdf.specs.Lookups as look
use Rattle.pdf.specs.Tokens.{token}
use Rattle.pdf.specs.Values.{Value, number, named, ref, truth, array, dict, Values, none, ◌◂◌, Entries, value, deepest, is_word}
use Rattle.sheet.specs.declared.faults.Fault.{Fault}
use Rattle.sheet.specs.declared.faults.FaultKind.TheVariants as kind
use Rattle.sheet.specs.Faults.{fault, or_fault}
use Rattle.sheet.specs.Lines.{bind}
use Rattle.sheet.specs.Table.{Index, when, after_start, after_token}

-- Where object n starts.
abbrev pub start_in : Index → ℕ → ℕ
start_in x n = slice_index x.offsets (n - 1)

-- The value that object n begins with, and what follows it.
unfoldable pub value_in : List ℕ → Index → ℕ → Option (Value × List ℕ)
value_in file x n = bind (after_start n (drop (start_in x n) file)) (value deepest)

-- What follows the word endobj.
abbrev pub after_end : List ℕ → Option (List ℕ)
after_end bs = after_token (is_word (codes "endobj")) (token bs)

-- A fault of this object's syntax, keys, values or references.
abbrev pub syntax_of : Index → ℕ → Fault
syntax_of x n = fault kind.Syntax n (start_in x n)

-- A fault of the tree, found in this object.
abbrev pub tree_of : Index → ℕ → Fault
tree_of x n = fault kind.Tree n (start_in x n)

-- A limit that this object passes.
abbrev pub limit_of : Index → ℕ → Fault
limit_of x n = fault kind.Limit n (start_in x n)

-- What a view makes of object n, which ends with its value; or the object's fault.
unfoldable pub object_in : {A : Type 0} → List ℕ → Index → (Value → Option A) → ℕ → Result A Fault
object_in file x view n = or_fault (bind (value_in file x n) λ r. bind (after_end r.1) λ _. view r.0) (syntax_of x n)

-- A dictionary of exactly so many entries.
abbrev pub dict_of_size : ℕ → Value → Option Entries
dict_of_size k v = bind (dict_of v) λ es. when (count_entries es == k) (Some es)

-- A name is this one.
abbrev pub is_name : List ℕ → Option (List ℕ) → Bool
is_name s None = false
is_name s (Some t) = bytes_eq t s

-- The entry of this key is this name.
abbrev pub name_at : List ℕ → List ℕ → Entries → Bool
name_at key s es = is_name s (bind (field_in key es) look.name_of)

-- A reference to an object of the file.
abbrev pub target : Index → Value → Option ℕ
target x v = bind (ref_of v) λ n. when (nat_le 1 n && nat_le n (length x.offsets)) (Some n)

-- The object that the entry of this key refers to.
abbrev pub ref_at : Index → List ℕ → Entries → Option ℕ
ref_at x key es = bind (field_in key es) (target x)

-- The number of the entry of this key.
abbrev pub int_at : List ℕ → Entries → Option ℤ
int_at key es = bind (field_in key es) int_of

-- The number of the entry of this key, if it is not negative.
abbrev pub nat_at : List ℕ → Entries → Option ℕ
nat_at key es = bind (field_in key es) nat_of

-- The values of the array of this key.
abbrev pub list_at : List ℕ → Entries → Option Values
list_at key es = bind (field_in key es) list_of

-- The dictionary of one entry under this key.
abbrev pub inner_at : List ℕ → Entries → Option Entries
inner_at key es = bind (field_in key es) (dict_of_size 1)

-- The references of an array.
abbrev pub targets : Index → Values → Option (List ℕ)
targets x none = Some []
targets x (v ◂ vs) = bind (target x v) λ n. bind (targets x vs) λ ns. Some (n ∷ ns)

-- The entry of this key is true.
abbrev pub true_at : List ℕ → Entries → Option Unit
true_at key es = bind (field_in key es) λ v. when (is_true v) (Some tt)

-- The catalog: the page tree and the root of the structure tree.
abbrev pub catalog_in : Index → Value → Option (ℕ × ℕ)
catalog_in x v =
    bind (dict_of_size 4 v) λ es. when (name_at (codes "Type") (codes "Catalog") es)
    (bind (ref_at x (codes "Pages") es) λ pages.
    bind (inner_at (codes "MarkInfo") es) λ info.
    bind (true_at (codes "Marked") info) λ _.
    bind (ref_at x (codes "StructTreeRoot") es) λ root. Some (pages, root))

-- The page tree: its pages, as many as it counts.
abbrev pub page_tree_in : Index → Value → Option (List ℕ)
page_tree_in x v =
    bind (dict_of_size 3 v) λ es. when (name_at (codes "Type") (codes "Pages") es)
    (bind (nat_at (codes "Count") es) λ count.
    bind (bind (list_at (codes "Kids") es) (targets x)) λ kids. when (length kids == count) (Some kids))

-- A page: its contents, its font and its key in the parent tree.
pub record PageObject : Type 0 where
  pub contents : ℕ
  pub font : ℕ
  pub key : ℤ

-- A number is 0.
abbrev pub is_zero_number : Option ℕ → Bool
is_zero_number None = false
is_zero_number (Some n) = n == 0

-- A number is a width or a height.
abbrev pub is_side_number : Option ℕ → Bool
is_side_number None = false
is_side_number (Some n) = is_side n

-- A box from (0, 0) to a width and a height.
abbrev pub is_box : Values → Bool
is_box none = false
is_box (a ◂ none) = false
is_box (a ◂ b ◂ none) = false
is_box (a ◂ b ◂ w ◂ none) = false
is_box (a ◂ b ◂ w ◂ h ◂ none) = is_zero_number (nat_of a) && (is_zero_number (nat_of b) && (is_side_number (nat_of w) && is_side_number (nat_of h)))
is_box (a ◂ b ◂ w ◂ h ◂ i ◂ vs) = false

-- A page in the page tree of this number.
abbrev pub page_in : Index → ℕ → Value → Option PageObject
page_in x tree v =
    bind (dict_of_size 6 v) λ es. when (name_at (codes "Type") (codes "Page") es)
    (bind (ref_at x (codes "Parent") es) λ parent.
    bind (list_at (codes "MediaBox") es) λ box.
    bind (bind (inner_at (codes "Resources") es) (inner_at (codes "Font"))) λ fonts.
    bind (ref_at x (codes "F1") fonts) λ font.
    bind (ref_at x (codes "Contents") es) λ contents.
    bind (int_at (codes "StructParents") es) λ key.
    when (parent == tree && is_box box) (Some (record { contents = contents; font = font; key = key })))

-- The font.
abbrev pub font_in : Value → Option Unit
font_in v =
    bind (dict_of_size 4 v) λ es. when (name_at (codes "Type") (codes "Font") es && (name_at (codes "Subtype") (codes "Type1") es && (name_at (codes "BaseFont") (codes "Courier") es && name_at (codes "Encoding") (codes "WinAnsiEncoding") es))) (Some tt)

-- The root of the structure tree of a file with so many pages: its kids and the parent tree.
abbrev pub root_in : Index → ℕ → Value → Option (List ℕ × ℕ)
root_in x pages v =
    bind (dict_of_size 4 v) λ es. when (name_at (codes "Type") (codes "StructTreeRoot") es)
    (bind (bind (list_at (codes "K") es) (targets x)) λ kids.
    bind (ref_at x (codes "ParentTree") es) λ parents.
    bind (nat_at (codes "ParentTreeNextKey") es) λ next. when (next == pages) (Some (kids, parents)))

-- Keys and what they refer to, in turn; a key may be waiting for its reference.
abbrev pub pairs_from : Index → Values → Option ℤ → Option (List (ℤ × ℕ))
pairs_from x none None = Some []
pairs_from x none (Some key) = None
pairs_from x (v ◂ vs) None = bind (int_of v) λ key. pairs_from x vs (Some key)
pairs_from x (v ◂ vs) (Some key) = bind (target x v) λ n. bind (pairs_from x vs None) λ more. Some ((key, n) ∷ more)

-- All keys and what they refer to.
abbrev pub pairs_in : Index → Values → Option (List (ℤ × ℕ))
pairs_in x vs = pairs_from x vs None

-- The parent tree.
abbrev pub parent_tree_in : Index → Value → Option (List (ℤ × ℕ))
parent_tree_in x v = bind (dict_of_size 1 v) λ es. bind (list_at (codes "Nums") es) (pairs_in x)

-- The owners of a page's marks.
abbrev pub owners_in : Index → Value → Option (List ℕ)
owners_in x v = bind (list_of v) (targets x)

-- The type among these that has a name.
abbrev pub type_from : List ElementType → List ℕ → Option ElementType
type_from [] s = None
type_from (t ∷ ts) s = elim (bytes_eq s (name_of t)) [ true ↦ Some t | false ↦ type_from ts s ]

-- The element type of a name, if there is one.
abbrev pub type_named : List ℕ → Option ElementType
type_named s = type_from (Document ∷ Part ∷ Sect ∷ P ∷ H1 ∷ H2 ∷ L ∷ LI ∷ Figure ∷ Caption ∷ []) s

-- A kid of an element in a file: an element, or a mark by its page's object and its identifier.
pub data KidObject : Type 0 where
  below : ℕ → KidObject
  content : ℕ → ℕ → KidObject

-- A mark among the kids.
abbrev pub mark_in : Index → Value → Option KidObject
mark_in x v =
    bind (dict_of_size 3 v) λ es. when (name_at (codes "Type") (codes "MCR") es)
    (bind (ref_at x (codes "Pg") es) λ page. bind (nat_at (codes "MCID") es) λ i. Some (content page i))

-- A kid of an element.
abbrev pub kid_in : Index → Value → Option KidObject
kid_in x (number z) = None
kid_in x (named s) = None
kid_in x (ref n) = bind (target x (ref n)) λ e. Some (below e)
kid_in x truth = None
kid_in x (array vs) = None
kid_in x (dict es) = mark_in x (dict es)

-- The kids of an element.
abbrev pub kids_in : Index → Values → Option (List KidObject)
kids_in x none = Some []
kids_in x (v ◂ vs) = bind (kid_in x v) λ k. bind (kids_in x vs) λ ks. Some (k ∷ ks)

-- An element: its type, its holder and its kids.
pub record ElementObject : Type 0 where
  pub role : ElementType
  pub holder : ℕ
  pub kids : List KidObject

-- What the value of an element says.
abbrev pub element_in : Index → Value → Option ElementObject
element_in x v =
    bind (dict_of_size 4 v) λ es. when (name_at (codes "Type") (codes "StructElem") es)
    (bind (bind (bind (field_in (codes "S") es) look.name_of) type_named) λ role.
    bind (ref_at x (codes "P") es) λ holder.
    bind (bind (list_at (codes "K") es) (kids_in x)) λ kids. Some (record { role = role; holder = holder; kids = kids }))

-- Contents: the object of their Length.
abbrev pub length_in : Index → Value → Option ℕ
length_in x v = bind (dict_of_size 1 v) (ref_at x (codes "Length"))
