-- The bytes of a sheet: every object, their numbers and order, the table, the trailer and the tail.
use Rattle.std.specs.Prelude.{ℕ, zero, suc, ◌+◌, ◌-◌, ◌*◌, List, [], ◌∷◌, ◌++◌, length, take, drop, pos, codes, decimal}
use Rattle.page.specs.Numbers.{name_of}
use Rattle.machine.specs.declared.types.Open.{Open}
use Rattle.pdf.specs.Blocks.{Block, whole, offset_of}
use Rattle.pdf.specs.Numbers.{padded}
use Rattle.pdf.specs.Values.{Value, number, named, ref, truth, array, dict, Values, none, ◌◂◌, end, entry}
use Rattle.pdf.specs.Written.{render}
use Rattle.sheet.specs.Contents.{contents_of}
use Rattle.sheet.specs.Tree.{Kid, element, mark, Element, Tree}
use Rattle.sheet.specs.Sheet.{Page, Sheet, closed_sheet}

-- The header: the version, and a comment of four bytes above 127.
abbrev pub header : List ℕ
header = codes "%PDF-1.7\n%" ++ 0xE2 ∷ 0xE3 ∷ 0xCF ∷ 0xD3 ∷ 10 ∷ []

-- The object number of page k.
abbrev pub page_number : ℕ → ℕ
page_number k = 4 * k + 2

-- The object number of the contents of page k.
abbrev pub contents_number : ℕ → ℕ
contents_number k = 4 * k + 3

-- The object number of their Length.
abbrev pub length_number : ℕ → ℕ
length_number k = 4 * k + 4

-- The object number of the owners of page k.
abbrev pub owners_number : ℕ → ℕ
owners_number k = 4 * k + 5

-- The object number of element e in a sheet of p pages.
abbrev pub element_number : ℕ → ℕ → ℕ
element_number p e = 4 * p + 5 + e

-- The number of an element's holder: the root of the tree, or an element.
abbrev pub holder_number : ℕ → ℕ → ℕ
holder_number p zero = 4
holder_number p (suc e) = element_number p (suc e)

-- A number that is not negative, as a value.
abbrev pub nat : ℕ → Value
nat n = number (pos n)

-- The start of an object.
abbrev pub object_start : ℕ → List ℕ
object_start n = decimal n ++ codes " 0 obj\n"

-- An object of one value.
abbrev pub object : ℕ → Value → Block
object n v = record { number = n; bytes = object_start n ++ (render v ++ codes "\nendobj\n") }

-- The start of the contents of page k, up to their first instruction.
abbrev pub contents_start : ℕ → List ℕ
contents_start k = object_start (contents_number k) ++ (render (dict (entry (codes "Length") (ref (length_number k)) end)) ++ codes "\nstream\n")

-- The contents of page k.
abbrev pub contents : ℕ → Page → Block
contents k p = record { number = contents_number k; bytes = contents_start k ++ (contents_of p.instructions ++ codes "\nendstream\nendobj\n") }

-- The catalog. This value and the next are as docs/FORMAT.md shows them.
abbrev pub catalog : Value
catalog =
    dict
    (entry (codes "Type") (named (codes "Catalog"))
    (entry (codes "Pages") (ref 2)
    (entry (codes "MarkInfo") (dict (entry (codes "Marked") truth end))
    (entry (codes "StructTreeRoot") (ref 4) end))))

-- The page tree, with these pages.
abbrev pub page_tree : ℕ → Values → Value
page_tree p kids = dict (entry (codes "Type") (named (codes "Pages")) (entry (codes "Count") (nat p) (entry (codes "Kids") (array kids) end)))

-- The font.
abbrev pub font : Value
font =
    dict
    (entry (codes "Type") (named (codes "Font"))
    (entry (codes "Subtype") (named (codes "Type1"))
    (entry (codes "BaseFont") (named (codes "Courier"))
    (entry (codes "Encoding") (named (codes "WinAnsiEncoding")) end))))

-- The root of the structure tree, with these kids.
abbrev pub tree_root : ℕ → Values → Value
tree_root p kids =
    dict
    (entry (codes "Type") (named (codes "StructTreeRoot"))
    (entry (codes "K") (array kids)
    (entry (codes "ParentTree") (ref 5)
    (entry (codes "ParentTreeNextKey") (nat p) end))))

-- The parent tree, with these keys and owners.
abbrev pub parent_tree : Values → Value
parent_tree nums = dict (entry (codes "Nums") (array nums) end)

-- Page k.
abbrev pub page_value : ℕ → Page → Value
page_value k p =
    dict
    (entry (codes "Type") (named (codes "Page"))
    (entry (codes "Parent") (ref 2)
    (entry (codes "MediaBox") (array (nat 0 ◂ nat 0 ◂ nat p.width ◂ nat p.height ◂ none))
    (entry (codes "Resources") (dict (entry (codes "Font") (dict (entry (codes "F1") (ref 3) end)) end))
    (entry (codes "Contents") (ref (contents_number k))
    (entry (codes "StructParents") (nat (k - 1)) end))))))

-- A kid of the tree, in a sheet of p pages.
abbrev pub kid_value : ℕ → Kid → Value
kid_value p (element e) = ref (element_number p e)
kid_value p (mark k i) = dict (entry (codes "Type") (named (codes "MCR")) (entry (codes "Pg") (ref (page_number k)) (entry (codes "MCID") (nat i) end)))

-- Kids of the tree, in order.
abbrev pub kid_values : ℕ → List Kid → Values
kid_values p [] = none
kid_values p (k ∷ ks) = kid_value p k ◂ kid_values p ks

-- An element.
abbrev pub element_value : ℕ → Element → Value
element_value p e =
    dict
    (entry (codes "Type") (named (codes "StructElem"))
    (entry (codes "S") (named (name_of e.role))
    (entry (codes "P") (ref (holder_number p e.parent))
    (entry (codes "K") (array (kid_values p e.kids)) end))))

-- The references to pages from page k on.
abbrev pub page_refs : ℕ → List Page → Values
page_refs k [] = none
page_refs k (p ∷ ps) = ref (page_number k) ◂ page_refs (k + 1) ps

-- The keys from that of page k on, each with the owners of its page.
abbrev pub owners_refs : ℕ → List Page → Values
owners_refs k [] = none
owners_refs k (p ∷ ps) = nat (k - 1) ◂ ref (owners_number k) ◂ owners_refs (k + 1) ps

-- The references to the elements of a page's marks.
abbrev pub element_refs : ℕ → List ℕ → Values
element_refs p [] = none
element_refs p (e ∷ es) = ref (element_number p e) ◂ element_refs p es

-- The objects of pages from page k on: contents, Length, page.
abbrev pub page_blocks : ℕ → List Page → List Block
page_blocks k [] = []
page_blocks k (p ∷ ps) = contents k p ∷ object (length_number k) (nat (length (contents_of p.instructions))) ∷ object (page_number k) (page_value k p) ∷ page_blocks (k + 1) ps

-- The owners of pages from page k on.
abbrev pub owners_blocks : ℕ → ℕ → List Page → List Block
owners_blocks n k [] = []
owners_blocks n k (p ∷ ps) = object (owners_number k) (array (element_refs n p.owners)) ∷ owners_blocks n (k + 1) ps

-- The elements from element e on.
abbrev pub element_blocks : ℕ → ℕ → List Element → List Block
element_blocks p e [] = []
element_blocks p e (x ∷ xs) = object (element_number p e) (element_value p x) ∷ element_blocks p (e + 1) xs

-- All objects of a sheet, in the order in which they are written.
unfoldable pub blocks : Sheet → List Block
blocks s =
    let p : ℕ = length s.pages in
    let t : Tree = s.drawing.tree in
    page_blocks 1 s.pages ++ (object 1 catalog ∷ object 2 (page_tree p (page_refs 1 s.pages)) ∷ object 3 font ∷ object 4 (tree_root p (kid_values p t.roots)) ∷ object 5 (parent_tree (owners_refs 1 s.pages)) ∷ (owners_blocks p 1 s.pages ++ element_blocks p 1 t.elements))

-- So many entries of the table from object n on, where the first of the blocks starts at `from`.
abbrev pub entries_from : ℕ → ℕ → ℕ → List Block → List ℕ
entries_from zero n from bs = []
entries_from (suc k) n from bs = padded 10 (offset_of n from bs) ++ (codes " 00000 n \n" ++ entries_from k (n + 1) from bs)

-- The table, the trailer and the tail of a file whose first bytes are these blocks after the header.
abbrev pub table_of : List Block → List ℕ
table_of bs =
    let n : ℕ = length bs in
    let at : ℕ = length header + length (whole bs) in
    codes "xref\n0 " ++ (decimal (n + 1) ++ (codes "\n0000000000 65535 f \n" ++ (entries_from n 1 (length header) bs ++ (codes "trailer\n" ++ (render (dict (entry (codes "Size") (nat (n + 1)) (entry (codes "Root") (ref 1) end))) ++ (codes "\nstartxref\n" ++ (decimal at ++ codes "\n%%EOF\n")))))))

-- The file of these blocks.
unfoldable pub file_of : List Block → List ℕ
file_of bs = header ++ (whole bs ++ table_of bs)

-- The finished file of a sheet, with all closed that is open.
unfoldable pub finished : Sheet → List ℕ
finished s = file_of (blocks (closed_sheet s))

-- The page that is open, with its number k: its contents so far.
abbrev pub open_contents : ℕ → List Page → List ℕ
open_contents k [] = []
open_contents k (p ∷ ps) = contents_start k ++ contents_of p.instructions

-- The bytes of the pages from page k on; where a page is open, it is the last.
abbrev pub pages_so_far : List Open → List Page → List ℕ
pages_so_far [] ps = whole (page_blocks 1 ps)
pages_so_far (x ∷ stack) ps =
    let closed : ℕ = length ps - 1 in
    whole (page_blocks 1 (take closed ps)) ++ open_contents (length ps) (drop closed ps)

-- The bytes in the sink after some words.
unfoldable pub so_far : Sheet → List ℕ
so_far s = header ++ pages_so_far s.drawing.machine.stack s.pages
