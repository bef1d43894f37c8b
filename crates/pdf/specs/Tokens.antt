-- Tokens: numbers, names, words, strings and brackets, with white space and comments between them; read and written.
use Rattle.std.specs.Prelude.{ℕ, ◌+◌, ◌-◌, ◌*◌, ◌%◌, Bool, true, false, cond, not, ◌&&◌, List, [], ◌∷◌, ◌++◌, ℤ, Some, None, codes, Option, ◌==◌, nat_lt}
use Rattle.std.specs.Fmt.{signed_decimal}
use Rattle.pdf.specs.Bytes.{among, white, line_end, regular, octal_digit, name_byte, each, front, past}
use Rattle.pdf.specs.Numbers.{in_range, integer}

-- A word is a run of regular bytes that is no integer; a string is held without its escapes.
pub data Token : Type 0 where
  int : ℤ → Token
  name : List ℕ → Token
  word : List ℕ → Token
  text : List ℕ → Token
  array_open : Token
  array_close : Token
  dict_open : Token
  dict_close : Token

-- What follows white space and comments; the flag tells that a comment has begun and not ended.
-- The byte that ends a comment is white space itself.
abbrev pub skip_from : Bool → List ℕ → List ℕ
skip_from b [] = []
skip_from true (c ∷ cs) = skip_from (not (line_end c)) cs
skip_from false (c ∷ cs) = elim (white c) [ true ↦ skip_from false cs | false ↦ elim (c == 37) [ true ↦ skip_from true cs | false ↦ c ∷ cs ] ]

-- What follows white space and comments.
abbrev pub skip : List ℕ → List ℕ
skip bs = skip_from false bs

-- What the first byte of a token says.
pub data Kind : Type 0 where
  plain : Kind
  slash : Kind
  paren : Kind
  square : Kind
  square_end : Kind
  less : Kind
  more : Kind
  stray : Kind

-- A regular byte begins a number or a word; / a name; ( a string; [ and ] are tokens; < and > must come twice.
-- No token begins with another byte.
abbrev pub kind_of : ℕ → Kind
kind_of c =
    cond (regular c) plain
    (cond (c == 47) slash
    (cond (c == 40) paren
    (cond (c == 91) square
    (cond (c == 93) square_end
    (cond (c == 60) less
    (cond (c == 62) more stray))))))

-- Where in a string the next byte stands: among plain bytes, after a backslash, or after octal digits,
-- with how many more may come and the value so far.
pub data Place : Type 0 where
  among_plain : Place
  after_backslash : Place
  after_octal : ℕ → ℕ → Place

-- What a byte of a string does: it adds bytes and leads to a place, it adds bytes and ends the string, or it is bad.
pub data Act : Type 0 where
  give : List ℕ → Place → Act
  done : List ℕ → Act
  bad : Act

-- The same act, with one byte more added in front.
abbrev pub give_first : ℕ → Act → Act
give_first v (give bs p) = give (v ∷ bs) p
give_first v (done bs) = done (v ∷ bs)
give_first v bad = bad

-- A byte that is not escaped: a backslash begins an escape, ) ends the string, ( is bad, others stand for themselves.
abbrev pub plain_act : ℕ → Act
plain_act c = cond (c == 92) (give [] after_backslash) (cond (c == 41) (done []) (cond (c == 40) bad (give (c ∷ []) among_plain)))

-- A byte after a backslash: ( ) and the backslash are themselves, n r t b f are LF, CR, tab, backspace and form feed,
-- an octal digit may have two more after it, and others are bad.
abbrev pub escape_act : ℕ → Act
escape_act c =
    cond (among (codes "()\\") c) (give (c ∷ []) among_plain)
    (cond (c == 110) (give (10 ∷ []) among_plain)
    (cond (c == 114) (give (13 ∷ []) among_plain)
    (cond (c == 116) (give (9 ∷ []) among_plain)
    (cond (c == 98) (give (8 ∷ []) among_plain)
    (cond (c == 102) (give (12 ∷ []) among_plain)
    (cond (octal_digit c) (give [] (after_octal 2 (c - 48))) bad))))))

-- What a byte does at a place. Octal digits are taken as long as there may be more; their value counts modulo 256.
abbrev pub act : Place → ℕ → Act
act among_plain c = plain_act c
act after_backslash c = escape_act c
act (after_octal n v) c = cond (octal_digit c && nat_lt 0 n) (give [] (after_octal (n - 1) (8 * v + (c - 48)))) (give_first (v % 256) (plain_act c))

-- Bytes in front of those that a string goes on with.
abbrev pub onto : List ℕ → Option (List ℕ × List ℕ) → Option (List ℕ × List ℕ)
onto bs None = None
onto bs (Some r) = Some (bs ++ r.0, r.1)

-- What an act makes of the bytes cs after it, if `go` reads them from the place that it leads to.
abbrev pub on_act : (Place → Option (List ℕ × List ℕ)) → List ℕ → Act → Option (List ℕ × List ℕ)
on_act go cs (give bs q) = onto bs (go q)
on_act go cs (done bs) = Some (bs, cs)
on_act go cs bad = None

-- The bytes of a string from a place in it up to its closing parenthesis, and what follows that.
abbrev pub body : Place → List ℕ → Option (List ℕ × List ℕ)
body p [] = None
body p (c ∷ cs) = on_act (λ q. body q cs) cs (act p c)

-- The token of a string's bytes.
abbrev pub as_text : Option (List ℕ × List ℕ) → Option (Token × List ℕ)
as_text None = None
as_text (Some r) = Some (text r.0, r.1)

-- The token of a name's bytes: bad if one of them may not stand in a name.
abbrev pub as_name : List ℕ → List ℕ → Option (Token × List ℕ)
as_name bs rest = cond (each name_byte bs) (Some (name bs, rest)) None

-- The token of a run of regular bytes: the integer, if it writes one, or a word.
abbrev pub word_is : Option ℤ → List ℕ → Token
word_is None bs = word bs
word_is (Some z) bs = int z

-- The token t, if the byte x comes a second time.
abbrev pub twice : ℕ → Token → List ℕ → Option (Token × List ℕ)
twice x t [] = None
twice x t (c ∷ cs) = cond (c == x) (Some (t, cs)) None

-- The token that begins with the byte c of this kind, and what follows it.
abbrev pub lex_by : Kind → ℕ → List ℕ → Option (Token × List ℕ)
lex_by plain c cs = Some (word_is (integer (front regular (c ∷ cs))) (front regular (c ∷ cs)), past regular (c ∷ cs))
lex_by slash c cs = as_name (front regular cs) (past regular cs)
lex_by paren c cs = as_text (body among_plain cs)
lex_by square c cs = Some (array_open, cs)
lex_by square_end c cs = Some (array_close, cs)
lex_by less c cs = twice 60 dict_open cs
lex_by more c cs = twice 62 dict_close cs
lex_by stray c cs = None

-- The token that begins with the first byte, and what follows it.
abbrev pub lex : List ℕ → Option (Token × List ℕ)
lex [] = None
lex (c ∷ cs) = lex_by (kind_of c) c cs

-- The next token after white space and comments, and what follows it; none where it is bad or no byte is left.
unfoldable pub token : List ℕ → Option (Token × List ℕ)
token bs = lex (skip bs)

-- The bytes of a string as they are written: with a backslash before parentheses and backslashes.
abbrev pub escaped : List ℕ → List ℕ
escaped [] = []
escaped (c ∷ cs) = cond (among (codes "()\\") c) (92 ∷ c ∷ []) (c ∷ []) ++ escaped cs

-- How a token is written.
abbrev pub written : Token → List ℕ
written (int z) = signed_decimal z
written (name bs) = 47 ∷ bs
written (word bs) = bs
written (text bs) = 40 ∷ (escaped bs ++ (41 ∷ []))
written array_open = codes "["
written array_close = codes "]"
written dict_open = codes "<<"
written dict_close = codes ">>"

-- No integer is written.
abbrev pub no_integer : Option ℤ → Bool
no_integer None = true
no_integer (Some z) = false

-- Bytes that are a word: regular ones, at least one, that write no integer.
abbrev pub is_wordy : List ℕ → Bool
is_wordy [] = false
is_wordy (c ∷ cs) = each regular (c ∷ cs) && no_integer (integer (c ∷ cs))

-- A token that has a written form: an integer in range, a name of bytes that may stand in one, a word, any other.
abbrev pub writable : Token → Bool
writable (int z) = in_range z
writable (name bs) = each name_byte bs
writable (word bs) = is_wordy bs
writable (text bs) = true
writable array_open = true
writable array_close = true
writable dict_open = true
writable dict_close = true
