-- The document of the book of one price is TOML with the members of that book.
use Rattle.std.proofs.Common.{rules, ◌≤◌, String, Global, string_bytes, Result, Ok, ◌≡◌, ℕ, suc}
use Rattle.std.proofs.Common.{◌<◌, ◌^◌, List, [], ◌∷◌, ◌++◌, length, drop, codes, decimal, pos}
use Rattle.std.proofs.Common.{Some, true, false, option_map, FitsSigned, append_assoc, append-nil}
use Rattle.std.proofs.Common.{refl, sym, ap, ◌∙◌, subst, arith, lt-ltb}
use Rattle.std.specs.Fmt.{digits}
use Rattle.std.specs.Int.{w64}
use Rattle.std.proofs.lemmas.Str.{IsUtf8-string_bytes}
use Rattle.std.proofs.Math.Facts.{sfits_lit}
use Rattle.std.proofs.lemmas.Float.{T_from_true}
use Rattle.toml_writer.specs.Text.{string_text, key_text, dotted_text, encoding_of, escaped}
use Rattle.toml_writer.specs.Text.{needs_escape, quotes_after}
use Rattle.toml.specs.Data.{Data, string, integer, array, no_items, item, Members}
use Rattle.toml.specs.Tables.{no_nodes, close, key_value, array_table, Expression, define}
use Rattle.toml.specs.Tables.{along_header, along_dots, at_key}
use Rattle.toml.specs.Parse.{lines, skip_bom, parse_document}
use Rattle.toml.specs.Text.{IsValueText, IsLinesText}
use Rattle.toml.proofs.ReadLines.{run, AllPrinted, read_lines}
use Rattle.tariffs.specs.declared.fault.BookFault.{BookFault}
use Rattle.tariffs.specs.Faults.{Gives}
use Rattle.tariffs.specs.Books.{Book, IsDocument, book_of}
use Rattle.tariffs.specs.OnceBook.{once_book, to_the_block, to_the_price, once_document}
use Rattle.tariffs.proofs.OnceMembers.{book_read, day_items, once_members}

-- ---- lines

abbrev pair : List ℕ → Data → Expression
pair key d = (([], key), key_value d)

abbrev header : List (List ℕ) → List ℕ → Expression
header path key = ((path, key), array_table)

abbrev pair_text : List ℕ → List ℕ → List ℕ
pair_text key text = key ++ (codes " = " ++ (text ++ 10 ∷ []))

abbrev once_lines : ℕ → ℕ → List Expression
once_lines price block =
    pair (codes "zone") (string (codes "+00:00"))
    ∷ pair (codes "currency") (integer (pos 978))
    ∷ pair (codes "validity") (integer (pos 3600))
    ∷ pair (codes "periods") (array (item (string (codes "always")) no_items))
    ∷ header [] (codes "week")
    ∷ pair (codes "period") (string (codes "always"))
    ∷ pair (codes "days") (array day_items)
    ∷ pair (codes "from") (string (codes "00:00"))
    ∷ pair (codes "to") (string (codes "24:00"))
    ∷ header [] (codes "group")
    ∷ pair (codes "id") (integer (pos 10))
    ∷ pair (codes "unit") (string (codes "time"))
    ∷ pair (codes "block") (integer (pos block))
    ∷ pair (codes "slice") (integer (pos 600))
    ∷ pair (codes "max_grant") (integer (pos 3600))
    ∷ pair (codes "cycle") (string (codes "none"))
    ∷ pair (codes "final") (string (codes "terminate"))
    ∷ header (codes "group" ∷ []) (codes "price")
    ∷ pair (codes "period") (string (codes "always"))
    ∷ header (codes "group" ∷ codes "price" ∷ []) (codes "tiers")
    ∷ pair (codes "price") (integer (pos price))
    ∷ []

lines_define : (price block : ℕ) → option_map (λ doc. close doc.0)
    (run (no_nodes, []) (once_lines price block)) ≡ Some (once_members price block)
unfolding define along_header along_dots at_key
lines_define price block = refl

fits : (n : ℕ) → n < 2 ^ 63 → FitsSigned w64 (pos n)
fits n h = sfits_lit (T_from_true _ (lt-ltb n (2 ^ 63) h))

-- ---- what is written for the values

abbrev IsValue : Data → List ℕ → Type 0
IsValue = IsValueText false

number_text : (n : ℕ) (text : List ℕ) → decimal n ≡ text → n < 2 ^ 63 →
    IsValue (integer (pos n)) text
number_text n text same h = (sym same, fits n h)

always_text : IsValue (string (codes "always")) (codes "\"always\"")
unfolding string_text encoding_of escaped needs_escape quotes_after
always_text = refl

days_text : IsValue (array day_items) (codes "[1, 2, 3, 4, 5, 6, 7]")
unfolding digits
days_text = (
  codes "1, 2, 3, 4, 5, 6, 7]",
  refl,
  (
    codes "1",
    codes ", 2, 3, 4, 5, 6, 7]",
    refl,
    number_text 1 (codes "1") refl (omega arith),
    (
      codes "2",
      codes ", 3, 4, 5, 6, 7]",
      refl,
      number_text 2 (codes "2") refl (omega arith),
      (
        codes "3",
        codes ", 4, 5, 6, 7]",
        refl,
        number_text 3 (codes "3") refl (omega arith),
        (
          codes "4",
          codes ", 5, 6, 7]",
          refl,
          number_text 4 (codes "4") refl (omega arith),
          (
            codes "5",
            codes ", 6, 7]",
            refl,
            number_text 5 (codes "5") refl (omega arith),
            (
              codes "6",
              codes ", 7]",
              refl,
              number_text 6 (codes "6") refl (omega arith),
              (
                codes "7",
                codes "]",
                refl,
                number_text 7 (codes "7") refl (omega arith),
                refl,
              ),
            ),
          ),
        ),
      ),
    ),
  ),
)

periods_text : IsValue (array (item (string (codes "always")) no_items)) (codes "[\"always\"]")
periods_text = (codes "\"always\"]", refl, (codes "\"always\"", codes "]", refl, always_text, refl))

-- ---- what is written for the lines

record IsWritten (es : List Expression) (text : List ℕ) : Type 0 where
  lines : IsLinesText false true es text

no_lines : IsWritten [] []
no_lines = record { lines = refl }

-- a bare key and its value
pair_line : {es : List Expression} {rest : List ℕ} (key : List ℕ) (d : Data) (text : List ℕ) →
    key_text key ≡ key → IsValue d text → IsWritten es rest →
    IsWritten (pair key d ∷ es) (pair_text key text ++ rest)
pair_line {es = es} {rest = rest} key d text bare value more =
    record { lines = (pair_text key text, rest, refl, (text, rw bare refl, value), more.lines) }

-- a header of an element of an array of tables
abbrev header_text : List ℕ → List ℕ
header_text key = 10 ∷ 91 ∷ 91 ∷ (key ++ (93 ∷ 93 ∷ 10 ∷ []))

header_line : {es : List Expression} {rest : List ℕ} (path : List (List ℕ)) (key text : List ℕ) →
    dotted_text (path, key) ≡ text → IsWritten es rest →
    IsWritten (header path key ∷ es) (header_text text ++ rest)
header_line {es = es} {rest = rest} path key text same more =
    record { lines = (header_text text, rest, refl, rw same refl, more.lines) }

text_line : {es : List Expression} {rest : List ℕ} (key s : List ℕ) → key_text key ≡ key
    → string_text s ≡ 34 ∷ (s ++ 34 ∷ []) → IsWritten es rest
    → IsWritten (pair key (string s) ∷ es) (pair_text key (34 ∷ (s ++ 34 ∷ [])) ++ rest)
text_line key s bare plain more =
    pair_line key (string s) (34 ∷ (s ++ 34 ∷ [])) bare (sym plain) more

number_line : {es : List Expression} {rest : List ℕ} (key : List ℕ) (n : ℕ) (text : List ℕ)
    → key_text key ≡ key → decimal n ≡ text → n < 2 ^ 63 → IsWritten es rest
    → IsWritten (pair key (integer (pos n)) ∷ es) (pair_text key text ++ rest)
number_line key n text bare same h more =
    pair_line key (integer (pos n)) text bare (number_text n text same h) more

literals : (decimal 10 ≡ codes "10") × (decimal 600 ≡ codes "600") × (decimal 978 ≡ codes "978")
    × (decimal 3600 ≡ codes "3600")
unfolding digits
literals = (refl, refl, refl, refl)

-- the pieces of the document, with what follows each number
joined : (before middle a b : List ℕ) →
    before ++ ((a ++ 10 ∷ []) ++ (middle ++ ((b ++ 10 ∷ []) ++ [])))
    ≡ before ++ (a ++ ((10 ∷ middle) ++ (b ++ 10 ∷ [])))
joined before middle a b = simp (append_assoc, append-nil) refl

once_written : (price block : ℕ) → price < 2 ^ 63 → block < 2 ^ 63 →
    IsLinesText false false (once_lines price block) (once_document price block)
unfolding key_text string_text encoding_of escaped needs_escape quotes_after
once_written price block cheap short =
    let (ten, slice, euros, hour) = literals in
    subst (IsLinesText false false (once_lines price block))
    (joined to_the_block (drop 1 to_the_price) (decimal block) (decimal price))
    (text_line (codes "zone") (codes "+00:00") refl refl
    (number_line (codes "currency") 978 (codes "978") refl euros (omega arith)
    (number_line (codes "validity") 3600 (codes "3600") refl hour (omega arith)
    (pair_line (codes "periods") (array (item (string (codes "always")) no_items))
    (codes "[\"always\"]") refl periods_text (header_line [] (codes "week") (codes "week") refl
    (text_line (codes "period") (codes "always") refl refl
    (pair_line (codes "days") (array day_items) (codes "[1, 2, 3, 4, 5, 6, 7]") refl days_text
    (text_line (codes "from") (codes "00:00") refl refl
    (text_line (codes "to") (codes "24:00") refl refl
    (header_line [] (codes "group") (codes "group") refl
    (number_line (codes "id") 10 (codes "10") refl ten (omega arith)
    (text_line (codes "unit") (codes "time") refl refl
    (number_line (codes "block") block (decimal block) refl refl short
    (number_line (codes "slice") 600 (codes "600") refl slice (omega arith)
    (number_line (codes "max_grant") 3600 (codes "3600") refl hour (omega arith)
    (text_line (codes "cycle") (codes "none") refl refl
    (text_line (codes "final") (codes "terminate") refl refl
    (header_line (codes "group" ∷ []) (codes "price") (codes "group.price") refl
    (text_line (codes "period") (codes "always") refl refl
    (header_line (codes "group" ∷ codes "price" ∷ []) (codes "tiers")
    (codes "group.price.tiers") refl (number_line (codes "price") price
    (decimal price) refl refl cheap no_lines))))))))))))))))))))).lines

all_printed : (price block : ℕ) → AllPrinted (once_lines price block)
all_printed price block = search rules

as_read : (text : List ℕ) → skip_bom text ≡ text → parse_document text
    ≡ option_map (λ doc. close doc.0) (lines (suc (length text)) (no_nodes, []) text)
unfolding parse_document
as_read text same = rw same refl

no_mark : (price block : ℕ) → skip_bom (once_document price block) ≡ once_document price block
unfolding skip_bom
no_mark price block = refl

once_parsed : (price block : ℕ) → price < 2 ^ 63 → block < 2 ^ 63 →
    parse_document (once_document price block) ≡ Some (once_members price block)
once_parsed price block cheap short =
    let text = once_document price block in
    let read =
    read_lines false false (once_lines price block) text text (no_nodes, []) (suc (length text))
    (once_written price block cheap short) (all_printed price block) refl (omega arith) in
    as_read text (no_mark price block)
    ∙ ap (option_map (λ doc. close doc.0)) read
    ∙ lines_define price block

-- reading the document gives the book
-- rule: once-book
pub document_read : (price block : ℕ) (text : String Global) (bytes : List ℕ)
    (r : Result Book BookFault) → price ≤ 1_000_000_000 → 1 ≤ block → block ≤ 1_000_000_000_000_000
    → bytes ≡ string_bytes text → string_bytes text ≡ once_document price block
    → ((t : Members) → IsDocument bytes t → Gives (λ b. b) r (book_of t))
    → Gives (λ b. b) r (Ok (once_book price block))
document_read price block text bytes r cheap some few same written read =
    let parsed = once_parsed price block (omega arith) (omega arith) in
    let document : IsDocument bytes (once_members price block) = record {
      text = rw same (IsUtf8-string_bytes text);
      parsed = ap parse_document (same ∙ written) ∙ parsed;
    } in
    subst (Gives (λ b. b) r) (book_read price block cheap some few)
    (read (once_members price block) document)
