-- Which paths have a row: what the walk of `matchit` over the table finds, in words.
use Rattle.std.proofs.Common.{◌≡◌, ◌<◌, ◌+◌, ◌-◌, ℕ, zero, suc, Bool, true, false, List, []}
use Rattle.std.proofs.Common.{◌∷◌, ◌++◌, length, take, drop, get_or, refl, sym, ap, subst, ◌∙◌}
use Rattle.std.proofs.Common.{arith, Option, Some, None, codes, cond, ◌&&◌, append_assoc}
use Rattle.std.proofs.Common.{append-nil, length-append}
use Rattle.std.specs.Prelude.{◌==◌, option_map, nat_eq, ltb}
use Rattle.std.specs.List.{starts_with, ends_with, position_from, list_all}
use Rattle.std.proofs.lemmas.Slice.Eq.{starts_is, ends_is}
use Rattle.std.proofs.lemmas.Bool.Decides.{Decides-eqb}
use Rattle.std.proofs.Math.Seq.{drop-append_seam}
use Rattle.std.proofs.lemmas.Bool.{eqb-true, lt-ltb, ltb-true, and_parts}
use Rattle.matchit.specs.Rows.{Rows, RowsOf, Seen, rows, rows_of, ends, level, empty_node}
use Rattle.matchit.specs.Seek.{first, seek, step, or_else, segment, has_slash, cuts, longest_suffix}
use Rattle.matchit.specs.Seek.{after_param, param_step}
use Rattle.matchit.specs.Level.{IsText, IsIndexed, AllSegment, AreSuffixes}
use Rattle.matchit.specs.Route.{scan}
use Rattle.matchit.specs.Router.{RouteOf, rename, map_key}
use Rattle.matchit.proofs.SeekLemmas.{first-prefix, seek-empty, param_step-empty}
use Rattle.matchit.proofs.LevelLemmas.{level-nil, level-cons, kid-found, kid-none}
use Rattle.matchit.proofs.ParamLemmas.{after_param-end, after_param-stop, after_param-kid}
use Rattle.matchit.proofs.RenameLemmas.{first-rename}
use Rattle.matchit.proofs.LongestLemmas.{longest-kid}
use Rattle.http_messages.specs.declared.routes.Route.{Route}
use Rattle.http_messages.specs.declared.routes.Route.TheVariants.{Ccr, Account, Statement, Credits}
use Rattle.http_messages.specs.declared.routes.Route.TheVariants.{Allowances, Redeem, Sweep}
use Rattle.http_messages.specs.Routes.{IsPathPart, IsPathOf}
use Rattle.http_messages.specs.Table.{route_table, route_at, AreRoutesPaths}

-- ---- the table as nodes

-- a node that a route ends at
abbrev leaf : List ℕ → ℕ → Seen
leaf w n = record { prefix = w; tails = ([], n) ∷ []; height = 0 }

abbrev node : List ℕ → Rows → Seen
node w rs = record { prefix = w; tails = rs; height = 0 }

abbrev statement_node : Seen
statement_node = node (codes "statement/") (level [] [] (Some 2) None None)

abbrev of_account : List Seen
of_account = leaf (codes "allowances") 0 ∷ leaf (codes "credits") 1 ∷ statement_node ∷ []

abbrev account_suffix : Seen
account_suffix = node (47 ∷ []) (level of_account [] None None None)

abbrev of_voucher : List Seen
of_voucher = leaf (codes "redeem") 6 ∷ []

abbrev voucher_suffix : Seen
voucher_suffix = node (47 ∷ []) (level of_voucher [] None None None)

abbrev account_node : Seen
account_node = node (codes "accounts/") (level [] (account_suffix ∷ []) (Some 3) None None)

abbrev voucher_node : Seen
voucher_node = node (codes "vouchers/") (level [] (voucher_suffix ∷ []) None None None)

abbrev tops : List Seen
tops = account_node ∷ leaf (codes "ccr") 4 ∷ leaf (codes "sweep") 5 ∷ voucher_node ∷ []

abbrev root : Seen
root = node (47 ∷ []) (level tops [] None None None)

-- the route of a number
abbrev numbered : ℕ → Route
numbered n = cond (n == 0) Allowances (cond (n == 1) Credits (cond (n == 2) Statement
    (cond (n == 3) Account (cond (n == 4) Ccr (cond (n == 5) Sweep Redeem)))))

table_is : rename (λ (r : RouteOf Route). r.value) route_table ≡ rename numbered (rows root)
unfolding route_table scan
table_is = refl

-- ---- options and texts

value_of : {A : Type 0} (a b : A) → Some a ≡ Some b → a ≡ b
value_of a b h = ap (λ (o : Option _). elim o as (λ _. _) [ None ↦ a | Some x ↦ x ]) h

-- texts that are written here
is_text : (w : List ℕ) → list_all (λ b. ltb b 256) w ≡ true → IsText w
is_text [] h = tt
is_text (b ∷ w) h =
    let p = and_parts (ltb b 256) (list_all (λ x. ltb x 256) w) h in
    (ltb-true b 256 p.0, is_text w p.1)

text_after : (w rest : List ℕ) → IsText (w ++ rest) → IsText rest
text_after [] rest h = h
text_after (b ∷ w) rest h = text_after w rest h.1

starts : (w path : List ℕ) → starts_with nat_eq path w ≡ true → path ≡ w ++ drop (length w) path
starts w path h = (starts_is Decides-eqb path w (starts_with nat_eq path w) refl).0 h

starts_itself : (w rest : List ℕ) → starts_with nat_eq (w ++ rest) w ≡ true
starts_itself w rest =
    (starts_is Decides-eqb (w ++ rest) w (starts_with nat_eq (w ++ rest) w) refl).1 rest refl

-- ---- a node by its prefix

record IsBelow (k : Seen) (path : List ℕ) (n : ℕ) : Type 0 where
  rest : List ℕ
  is : path ≡ k.prefix ++ rest
  found : first k.tails rest ≡ Some n

below : (k : Seen) (path : List ℕ) (n : ℕ) → IsText k.prefix → first (rows k) path ≡ Some n →
    IsBelow k path n
below k path n text h = by (starts_with nat_eq path k.prefix) refl
    (sym (first-prefix k.prefix k.tails path text) ∙ h)
  where
    by : (t : Bool) → starts_with nat_eq path k.prefix ≡ t →
        cond t (first k.tails (drop (length k.prefix) path)) None ≡ Some n → IsBelow k path n
    by true s h = record {
      rest = drop (length k.prefix) path;
      is = starts k.prefix path s;
      found = h;
    }
    by false s h = absurd (cc)

at_prefix : (k : Seen) (rest : List ℕ) → IsText k.prefix →
    first (rows k) (k.prefix ++ rest) ≡ first k.tails rest
at_prefix k rest text = first-prefix k.prefix k.tails (k.prefix ++ rest) text
    ∙ ap (λ t. cond t (first k.tails (drop (length k.prefix) (k.prefix ++ rest))) None)
    (starts_itself k.prefix rest)
    ∙ ap (first k.tails) (drop-append_seam k.prefix rest)

-- ---- a level that has nodes alone

or_else_none : (o : Option ℕ) → or_else o (or_else None None) ≡ o
or_else_none None = refl
or_else_none (Some k) = refl

no_param : (b : ℕ) (p : List ℕ) →
    seek ((param_step {K = ℕ} [] (b ∷ p)).0 - 1) (param_step {K = ℕ} [] (b ∷ p)).1 p ≡ None
no_param b p = rw (param_step-empty (b ∷ p)) (seek-empty ((param_step {K = ℕ} [] (b ∷ p)).0 - 1) p)

by_kids : (bs : List ℕ) (ks : List Seen) (b : ℕ) (p : List ℕ) → IsIndexed bs ks → b < 256 →
    first (level ks [] None None None) (b ∷ p) ≡ seek 0 (step b (rows_of ks)) p
by_kids bs ks b p indexed byte = level-cons bs ks [] None None None b p indexed byte
    ∙ ap (λ o. or_else (seek 0 (step b (rows_of ks)) p) (or_else o None)) (no_param b p)
    ∙ or_else_none (seek 0 (step b (rows_of ks)) p)

record IsKid (ks : List Seen) (path : List ℕ) (n : ℕ) : Type 0 where
  place : ℕ
  within : place < length ks
  found : first (rows (get_or ks place empty_node)) path ≡ Some n

kid_of : (bs : List ℕ) (ks : List Seen) (path : List ℕ) (n : ℕ) → IsIndexed bs ks → IsText path →
    first (level ks [] None None None) path ≡ Some n → IsKid ks path n
kid_of bs ks [] n indexed text h =
    let no : None ≡ Some n = sym (level-nil bs ks [] None None None indexed) ∙ h in absurd (cc)
kid_of bs ks (b ∷ p) n indexed text h =
    by (position_from (λ x. x == b) 0 bs) refl
    (sym (by_kids bs ks b p indexed text.0) ∙ h)
  where
    by : (o : Option ℕ) → position_from (λ x. x == b) 0 bs ≡ o →
        seek 0 (step b (rows_of ks)) p ≡ Some n → IsKid ks (b ∷ p) n
    by None e h = let no : None ≡ Some n = sym (kid-none bs ks b p indexed e) ∙ h in absurd (cc)
    by (Some i) e h =
        let kid = kid-found bs ks i empty_node b p indexed e in
        record { place = i; within = kid.0; found = sym kid.1 ∙ h }

at_kid : (bs : List ℕ) (ks : List Seen) (i b : ℕ) (p : List ℕ) → IsIndexed bs ks → b < 256 →
    position_from (λ x. x == b) 0 bs ≡ Some i →
    first (level ks [] None None None) (b ∷ p) ≡ first (rows (get_or ks i empty_node)) (b ∷ p)
at_kid bs ks i b p indexed byte e = by_kids bs ks b p indexed byte
    ∙ (kid-found bs ks i empty_node b p indexed e).1

-- ---- a leaf

at_end : (n : ℕ) (rest : List ℕ) (m : ℕ) → IsText rest → first (([], n) ∷ []) rest ≡ Some m →
    (rest ≡ []) × (n ≡ m)
at_end n [] m text h = (refl, value_of n m (sym (level-nil [] [] [] None None (Some n) tt) ∙ h))
at_end n (b ∷ p) m text h =
    let none : first (([], n) ∷ []) (b ∷ p) ≡ None =
    level-cons [] [] [] None None (Some n) b p tt text.0
    ∙ (λ i. or_else (seek-empty 0 p i) (or_else (no_param b p i) None)) in
    let no : None ≡ Some m = sym none ∙ h in absurd (cc)

ended : (n : ℕ) → first (([], n) ∷ []) [] ≡ Some n
ended n = level-nil [] [] [] None None (Some n) tt

-- ---- a part, up to a slash

data Split (path : List ℕ) : Type 0 where
  whole_part : has_slash path ≡ false → Split path
  at_slash : (a rest : List ℕ) → has_slash a ≡ false → path ≡ a ++ 47 ∷ rest → Split path

split : (path : List ℕ) → Split path
split [] = whole_part refl
split (b ∷ p) = by (b == 47) refl (split p)
  where
    by : (t : Bool) → (b == 47) ≡ t → Split p → Split (b ∷ p)
    by true e s = at_slash [] p refl (ap (λ x. x ∷ p) (eqb-true b 47 e))
    by false e (whole_part h) = whole_part (rw e h)
    by false e (at_slash a rest h is) = at_slash (b ∷ a) rest (rw e h) (ap (λ l. b ∷ l) is)

segment_whole : (p : List ℕ) → has_slash p ≡ false → segment p ≡ p
segment_whole [] h = refl
segment_whole (b ∷ p) h = by (b == 47) h (segment_whole p)
  where
    by : (t : Bool) → cond t true (has_slash p) ≡ false → (has_slash p ≡ false → segment p ≡ p) →
        cond t (b ∷ []) (b ∷ segment p) ≡ b ∷ p
    by true h on = absurd (cc)
    by false h on = ap (λ l. b ∷ l) (on h)

segment_cut : (a rest : List ℕ) → has_slash a ≡ false → segment (a ++ 47 ∷ rest) ≡ a ++ 47 ∷ []
segment_cut [] rest h = refl
segment_cut (b ∷ a) rest h = by (b == 47) h (segment_cut a rest)
  where
    by : (t : Bool) → cond t true (has_slash a) ≡ false →
        (has_slash a ≡ false → segment (a ++ 47 ∷ rest) ≡ a ++ 47 ∷ []) →
        cond t (b ∷ []) (b ∷ segment (a ++ 47 ∷ rest)) ≡ b ∷ (a ++ 47 ∷ [])
    by true h on = absurd (cc)
    by false h on = ap (λ l. b ∷ l) (on h)

slash_in : (a rest : List ℕ) → has_slash (a ++ 47 ∷ rest) ≡ true
slash_in [] rest = refl
slash_in (b ∷ a) rest = by (b == 47) (slash_in a rest)
  where
    by : (t : Bool) → has_slash (a ++ 47 ∷ rest) ≡ true →
        cond t true (has_slash (a ++ 47 ∷ rest)) ≡ true
    by true h = refl
    by false h = h

cuts_yes : (a : List ℕ) → 0 < length a → cuts (a ++ 47 ∷ []) (47 ∷ []) ≡ true
cuts_yes a some =
    let long : length (a ++ 47 ∷ []) ≡ length a + 1 = length-append a (47 ∷ []) in
    let more : ltb 1 (length (a ++ 47 ∷ [])) ≡ true =
    lt-ltb 1 (length (a ++ 47 ∷ [])) (omega (arith, some, long)) in
    let test : Bool = ends_with nat_eq (a ++ 47 ∷ []) (47 ∷ []) in
    let ends_so : test ≡ true =
    (ends_is Decides-eqb (a ++ 47 ∷ []) (47 ∷ []) test refl).1 a refl in
    rw (more, ends_so) refl

and_false : (a b : Bool) → b ≡ false → (a && b) ≡ false
and_false true b h = h
and_false false b h = refl

cuts_no : (p : List ℕ) → has_slash p ≡ false → cuts p (47 ∷ []) ≡ false
cuts_no p h = and_false (ltb 1 (length p)) (ends_with nat_eq p (47 ∷ []))
    (at (ends_with nat_eq p (47 ∷ []))
    (ends_is Decides-eqb p (47 ∷ []) (ends_with nat_eq p (47 ∷ [])) refl).0)
  where
    at : (t : Bool) → (t ≡ true → p ≡ take (length p - 1) p ++ 47 ∷ []) → t ≡ false
    at false is = refl
    at true is =
        let slash : has_slash p ≡ true = ap has_slash (is refl)
        ∙ slash_in (take (length p - 1) p) [] in
        absurd (let no : true ≡ false = sym slash ∙ h in cc)

-- ---- a level with a part

first_none : (o : Option ℕ) → or_else None (or_else o None) ≡ o
first_none None = refl
first_none (Some k) = refl

by_part : (ss : List Seen) (pv : Option ℕ) (b : ℕ) (p : List ℕ) → b < 256 →
    first (level [] ss pv None None) (b ∷ p) ≡ after_param (rows_of ss ++ ends pv) (b ∷ p)
by_part ss pv b p byte = level-cons [] [] ss pv None None b p tt byte
    ∙ ap (λ o. or_else o (or_else (after_param (rows_of ss ++ ends pv) (b ∷ p)) None))
    (seek-empty 0 p)
    ∙ first_none (after_param (rows_of ss ++ ends pv) (b ∷ p))

-- the nodes after a part begin with a slash
record IsSlashed (rs : Rows) : Type 0 where
  some : 0 < length (rows (node (47 ∷ []) rs))
  all : AllSegment (47 ∷ []) (rows (node (47 ∷ []) rs))

abbrev of_part : Rows → Option ℕ → Rows
of_part rs pv = level [] (node (47 ∷ []) rs ∷ []) pv None None

are_suffixes : (rs : Rows) → IsSlashed rs → AreSuffixes (node (47 ∷ []) rs ∷ [])
are_suffixes rs is = (
  record { some_prefix = omega arith; some_rows = is.some; all_segment = is.all },
  tt,
  tt,
)

longest_is : (rs : Rows) (seg : List ℕ) → IsSlashed rs →
    longest_suffix seg (rows_of (node (47 ∷ []) rs ∷ [])) ≡ cond (cuts seg (47 ∷ [])) (47 ∷ []) []
longest_is rs seg is =
    ap (longest_suffix seg) (append-nil (rows (node (47 ∷ []) rs)))
    ∙ longest-kid seg [] (47 ∷ []) (rows (node (47 ∷ []) rs)) is.all is.some

no_longest : (rs : Rows) (seg : List ℕ) → IsSlashed rs → cuts seg (47 ∷ []) ≡ false →
    longest_suffix seg (rows_of (node (47 ∷ []) rs ∷ [])) ≡ []
no_longest rs seg is uncut =
    longest_is rs seg is ∙ ap (λ t. cond t (47 ∷ []) []) uncut

-- the path is a part
part_whole : (rs : Rows) (pv : Option ℕ) (b : ℕ) (p : List ℕ) → IsSlashed rs → b < 256 →
    has_slash (b ∷ p) ≡ false → first (of_part rs pv) (b ∷ p) ≡ pv
part_whole rs pv b p is byte slashless =
    by_part (node (47 ∷ []) rs ∷ []) pv b p byte
    ∙ after_param-end (node (47 ∷ []) rs ∷ []) pv b p (are_suffixes rs is)
    (ap (λ seg. longest_suffix seg (rows_of (node (47 ∷ []) rs ∷ [])))
    (segment_whole (b ∷ p) slashless)
    ∙ no_longest rs (b ∷ p) is (cuts_no (b ∷ p) slashless)) slashless

-- the part is empty
part_empty : (rs : Rows) (pv : Option ℕ) (rest : List ℕ) → IsSlashed rs →
    first (of_part rs pv) (47 ∷ rest) ≡ None
part_empty rs pv rest is =
    by_part (node (47 ∷ []) rs ∷ []) pv 47 rest (omega arith)
    ∙ after_param-stop (node (47 ∷ []) rs ∷ []) pv 47 rest (no_longest rs (47 ∷ []) is refl) refl

-- more follows the part
part_before : (rs : Rows) (pv : Option ℕ) (b : ℕ) (a rest : List ℕ) → IsSlashed rs → b < 256 →
    has_slash (b ∷ a) ≡ false → first (of_part rs pv) ((b ∷ a) ++ 47 ∷ rest) ≡ first rs rest
part_before rs pv b a rest is byte slashless =
    let ss : List Seen = node (47 ∷ []) rs ∷ [] in
    let seg : segment ((b ∷ a) ++ 47 ∷ rest) ≡ (b ∷ a) ++ 47 ∷ [] =
    segment_cut (b ∷ a) rest slashless in
    let longest : 47 ∷ [] ≡ longest_suffix (segment ((b ∷ a) ++ 47 ∷ rest)) (rows_of ss) =
    sym (ap (λ l. longest_suffix l (rows_of ss)) seg ∙ longest_is rs ((b ∷ a) ++ 47 ∷ []) is
    ∙ ap (λ t. cond t (47 ∷ []) []) (cuts_yes (b ∷ a) (omega arith))) in
    let count : length (segment ((b ∷ a) ++ 47 ∷ rest)) - 1 ≡ length (b ∷ a) =
    ap (λ l. length l - 1) seg ∙ omega (arith, length-append (b ∷ a) (47 ∷ [])) in
    by_part ss pv b (a ++ 47 ∷ rest) byte
    ∙ after_param-kid ss 0 empty_node pv b (a ++ 47 ∷ rest) (are_suffixes rs is) (omega arith)
    longest
    ∙ ap (λ n. first (rows (node (47 ∷ []) rs)) (drop n ((b ∷ a) ++ 47 ∷ rest))) count
    ∙ ap (first (rows (node (47 ∷ []) rs))) (drop-append_seam (b ∷ a) (47 ∷ rest))
    ∙ at_prefix (node (47 ∷ []) rs) rest (omega arith, tt)

-- what is found after a part
data Took (rs : Rows) (pv : Option ℕ) (path : List ℕ) (n : ℕ) : Type 0 where
  took_all : IsPathPart path → pv ≡ Some n → Took rs pv path n
  took_part : (a rest : List ℕ) → IsPathPart a → path ≡ a ++ 47 ∷ rest → first rs rest ≡ Some n →
      Took rs pv path n

took : (rs : Rows) (pv : Option ℕ) (path : List ℕ) (n : ℕ) → IsSlashed rs → IsText path →
    first (of_part rs pv) path ≡ Some n → Took rs pv path n
took rs pv [] n is text h =
    let no : None ≡ Some n =
    sym (level-nil [] [] (node (47 ∷ []) rs ∷ []) pv None None tt) ∙ h in absurd (cc)
took rs pv (b ∷ p) n is text h = by (split (b ∷ p))
  where
    by : Split (b ∷ p) → Took rs pv (b ∷ p) n
    by (whole_part w) = took_all (record { some = omega arith; slashless = w })
        (sym (part_whole rs pv b p is text.0 w) ∙ h)
    by (at_slash [] rest w same) =
        let no : None ≡ Some n = sym (part_empty rs pv rest is)
        ∙ ap (first (of_part rs pv)) (sym same) ∙ h in absurd (cc)
    by (at_slash (x ∷ a) rest w same) =
        let byte : x < 256 = (subst IsText same text).0 in
        took_part (x ∷ a) rest (record { some = omega arith; slashless = w }) same
        (sym (part_before rs pv x a rest is byte w) ∙ ap (first (of_part rs pv)) (sym same) ∙ h)

-- a part at the end of a path
abbrev of_last : ℕ → Rows
of_last n = level [] [] (Some n) None None

last_whole : (n b : ℕ) (p : List ℕ) → b < 256 → has_slash (b ∷ p) ≡ false →
    first (of_last n) (b ∷ p) ≡ Some n
last_whole n b p byte slashless = by_part [] (Some n) b p byte
    ∙ after_param-end [] (Some n) b p tt refl slashless

last_took : (n : ℕ) (path : List ℕ) (m : ℕ) → IsText path → first (of_last n) path ≡ Some m →
    IsPathPart path × (n ≡ m)
last_took n [] m text h =
    let no : None ≡ Some m = sym (level-nil [] [] [] (Some n) None None tt) ∙ h in absurd (cc)
last_took n (b ∷ p) m text h = by (has_slash (b ∷ p)) refl
  where
    by : (t : Bool) → has_slash (b ∷ p) ≡ t → IsPathPart (b ∷ p) × (n ≡ m)
    by false w = (
      record { some = omega arith; slashless = w },
      value_of n m (sym (last_whole n b p text.0 w) ∙ h),
    )
    by true w =
        let no : None ≡ Some m = sym (by_part [] (Some n) b p text.0
        ∙ after_param-stop [] (Some n) b p refl w) ∙ h in absurd (cc)

-- ---- what is found

account_slashed : IsSlashed (level of_account [] None None None)
account_slashed = record { some = omega arith; all = (refl, (refl, (refl, tt))) }

voucher_slashed : IsSlashed (level of_voucher [] None None None)
voucher_slashed = record { some = omega arith; all = (refl, tt) }

of_account_indexed : IsIndexed (97 ∷ 99 ∷ 115 ∷ []) of_account
of_account_indexed = (
  omega arith,
  refl,
  (omega arith, (omega arith, tt)),
  (omega arith, refl, (omega arith, tt), (omega arith, refl, tt, tt, omega arith), omega arith),
  omega arith,
)

of_voucher_indexed : IsIndexed (114 ∷ []) of_voucher
of_voucher_indexed = (omega arith, refl, tt, tt, omega arith)

tops_indexed : IsIndexed (97 ∷ 99 ∷ 115 ∷ 118 ∷ []) tops
tops_indexed = (
  omega arith,
  refl,
  (omega arith, (omega arith, (omega arith, tt))),
  (
    omega arith,
    refl,
    (omega arith, (omega arith, tt)),
    (omega arith, refl, (omega arith, tt), (omega arith, refl, tt, tt, omega arith), omega arith),
    omega arith,
  ),
  omega arith,
)

-- what follows a fixed text is known
record IsLeaf (w path : List ℕ) (n m : ℕ) : Type 0 where
  is : path ≡ w
  same : n ≡ m

leaf_of : (w : List ℕ) (n : ℕ) (path : List ℕ) (m : ℕ) → IsText w → IsText path →
    first (rows (leaf w n)) path ≡ Some m → IsLeaf w path n m
leaf_of w n path m word text h =
    let under = below (leaf w n) path m word h in
    let end = at_end n under.rest m (text_after w under.rest (subst IsText under.is text))
    under.found in
    record { is = under.is ∙ ap (λ l. w ++ l) end.0 ∙ append-nil w; same = end.1 }

leaf_found : (w : List ℕ) (n : ℕ) → IsText w → first (rows (leaf w n)) w ≡ Some n
leaf_found w n word = ap (first (rows (leaf w n))) (sym (append-nil w))
    ∙ at_prefix (leaf w n) [] word ∙ ended n

-- ---- from what is found to the path

-- the last words of a path of an account
after_account : (path a rest : List ℕ) (n : ℕ) → IsPathPart a → IsText rest →
    path ≡ codes "/accounts/" ++ (a ++ 47 ∷ rest) →
    first (level of_account [] None None None) rest ≡ Some n → IsPathOf (numbered n) path
after_account path a rest n part text is h =
    by kid.place kid.within kid.found
  where
    kid : IsKid of_account rest n
    kid = kid_of (97 ∷ 99 ∷ 115 ∷ []) of_account rest n of_account_indexed text h

    by : (i : ℕ) → i < 3 → first (rows (get_or of_account i empty_node)) rest ≡ Some n →
        IsPathOf (numbered n) path
    by zero less f =
        let l = leaf_of (codes "allowances") 0 rest n (is_text (codes "allowances") refl) text f in
        subst (λ m. IsPathOf (numbered m) path) l.same (record {
          part = a;
          is_part = part;
          is = is ∙ ap (λ r. codes "/accounts/" ++ (a ++ 47 ∷ r)) l.is;
        })
    by (suc zero) less f =
        let l = leaf_of (codes "credits") 1 rest n (is_text (codes "credits") refl) text f in
        subst (λ m. IsPathOf (numbered m) path) l.same (record {
          part = a;
          is_part = part;
          is = is ∙ ap (λ r. codes "/accounts/" ++ (a ++ 47 ∷ r)) l.is;
        })
    by (suc (suc zero)) less f =
        let under = below statement_node rest n (is_text (codes "statement/") refl) f in
        let last = last_took 2 under.rest n
        (text_after (codes "statement/") under.rest (subst IsText under.is text)) under.found in
        subst (λ m. IsPathOf (numbered m) path) last.1 (record {
          account = a;
          is_account = part;
          month = under.rest;
          is_month = last.0;
          is = is ∙ ap (λ r. codes "/accounts/" ++ (a ++ 47 ∷ r)) under.is;
        })
    by (suc (suc (suc i))) less f = absurd (omega (arith, less))

account_path : (path rest : List ℕ) (n : ℕ) → IsText rest → path ≡ codes "/accounts/" ++ rest →
    first (of_part (level of_account [] None None None) (Some 3)) rest ≡ Some n →
    IsPathOf (numbered n) path
account_path path rest n text is h =
    by (took (level of_account [] None None None) (Some 3) rest n account_slashed text h)
  where
    by : Took (level of_account [] None None None) (Some 3) rest n → IsPathOf (numbered n) path
    by (took_all part e) = subst (λ m. IsPathOf (numbered m) path) (value_of 3 n e) (record {
      part = rest;
      is_part = part;
      is = is ∙ ap (λ r. codes "/accounts/" ++ r) (sym (append-nil rest));
    })
    by (took_part a more part same f) = after_account path a more n part
        (text_after (a ++ 47 ∷ []) more (subst IsText
        (same ∙ sym (append_assoc a (47 ∷ []) more)) text))
        (is ∙ ap (λ r. codes "/accounts/" ++ r) same) f

voucher_path : (path rest : List ℕ) (n : ℕ) → IsText rest → path ≡ codes "/vouchers/" ++ rest →
    first (of_part (level of_voucher [] None None None) None) rest ≡ Some n →
    IsPathOf (numbered n) path
voucher_path path rest n text is h =
    by (took (level of_voucher [] None None None) None rest n voucher_slashed text h)
  where
    last : (a more : List ℕ) → IsPathPart a → rest ≡ a ++ 47 ∷ more → (i : ℕ) → i < 1 →
        first (rows (get_or of_voucher i empty_node)) more ≡ Some n → IsPathOf (numbered n) path
    last a more part same zero less f =
        let left : IsText more = text_after (a ++ 47 ∷ []) more
        (subst IsText (same ∙ sym (append_assoc a (47 ∷ []) more)) text) in
        let l = leaf_of (codes "redeem") 6 more n (is_text (codes "redeem") refl) left f in
        subst (λ m. IsPathOf (numbered m) path) l.same (record {
          part = a;
          is_part = part;
          is = is ∙ ap (λ r. codes "/vouchers/" ++ r)
              (same ∙ ap (λ r. a ++ 47 ∷ r) l.is);
        })
    last a more part same (suc i) less f = absurd (omega (arith, less))

    by : Took (level of_voucher [] None None None) None rest n → IsPathOf (numbered n) path
    by (took_all part e) = absurd (cc)
    by (took_part a more part same f) =
        let kid = kid_of (114 ∷ []) of_voucher more n of_voucher_indexed
        (text_after (a ++ 47 ∷ []) more (subst IsText
        (same ∙ sym (append_assoc a (47 ∷ []) more)) text)) f in
        last a more part same kid.place kid.within kid.found

-- rule: http-path.part
path_of : (path : List ℕ) (n : ℕ) → IsText path → first (rows root) path ≡ Some n →
    IsPathOf (numbered n) path
path_of path n text h = by kid.place kid.within kid.found
  where
    under : IsBelow root path n
    under = below root path n (omega arith, tt) h

    more : IsText under.rest
    more = text_after (47 ∷ []) under.rest (subst IsText under.is text)

    kid : IsKid tops under.rest n
    kid = kid_of (97 ∷ 99 ∷ 115 ∷ 118 ∷ []) tops under.rest n tops_indexed more under.found

    by : (i : ℕ) → i < 4 → first (rows (get_or tops i empty_node)) under.rest ≡ Some n →
        IsPathOf (numbered n) path
    by zero less f =
        let a = below account_node under.rest n (is_text (codes "accounts/") refl) f in
        account_path path a.rest n
        (text_after (codes "accounts/") a.rest (subst IsText a.is more))
        (under.is ∙ ap (λ r. 47 ∷ r) a.is) a.found
    by (suc zero) less f =
        let l = leaf_of (codes "ccr") 4 under.rest n (is_text (codes "ccr") refl) more f in
        subst (λ m. IsPathOf (numbered m) path) l.same (under.is ∙ ap (λ r. 47 ∷ r) l.is)
    by (suc (suc zero)) less f =
        let l = leaf_of (codes "sweep") 5 under.rest n (is_text (codes "sweep") refl) more f in
        subst (λ m. IsPathOf (numbered m) path) l.same (under.is ∙ ap (λ r. 47 ∷ r) l.is)
    by (suc (suc (suc zero))) less f =
        let v = below voucher_node under.rest n (is_text (codes "vouchers/") refl) f in
        voucher_path path v.rest n
        (text_after (codes "vouchers/") v.rest (subst IsText v.is more))
        (under.is ∙ ap (λ r. 47 ∷ r) v.is) v.found
    by (suc (suc (suc (suc i)))) less f = absurd (omega (arith, less))

-- ---- from the path to what is found

to_account : (rest : List ℕ) → first (rows root) (codes "/accounts/" ++ rest) ≡
    first (of_part (level of_account [] None None None) (Some 3)) rest
to_account rest = at_prefix root (codes "accounts/" ++ rest) (omega arith, tt)
    ∙ at_kid (97 ∷ 99 ∷ 115 ∷ 118 ∷ []) tops 0 97 (codes "ccounts/" ++ rest) tops_indexed
    (omega arith) refl
    ∙ at_prefix account_node rest (is_text (codes "accounts/") refl)

to_voucher : (rest : List ℕ) → first (rows root) (codes "/vouchers/" ++ rest) ≡
    first (of_part (level of_voucher [] None None None) None) rest
to_voucher rest = at_prefix root (codes "vouchers/" ++ rest) (omega arith, tt)
    ∙ at_kid (97 ∷ 99 ∷ 115 ∷ 118 ∷ []) tops 3 118 (codes "ouchers/" ++ rest) tops_indexed
    (omega arith) refl
    ∙ at_prefix voucher_node rest (is_text (codes "vouchers/") refl)

part_found : (rs : Rows) (n : ℕ) (a : List ℕ) → IsSlashed rs → IsPathPart a → IsText a →
    first (of_part rs (Some n)) a ≡ Some n
part_found rs n [] is part text = absurd (omega (arith, part.some))
part_found rs n (b ∷ p) is part text = part_whole rs (Some n) b p is text.0 part.slashless

more_found : (rs : Rows) (pv : Option ℕ) (a rest : List ℕ) → IsSlashed rs → IsPathPart a →
    IsText a →
    first (of_part rs pv) (a ++ 47 ∷ rest) ≡ first rs rest
more_found rs pv [] rest is part text = absurd (omega (arith, part.some))
more_found rs pv (b ∷ p) rest is part text =
    part_before rs pv b p rest is text.0 part.slashless

last_found : (n : ℕ) (a : List ℕ) → IsPathPart a → IsText a → first (of_last n) a ≡ Some n
last_found n [] part text = absurd (omega (arith, part.some))
last_found n (b ∷ p) part text = last_whole n b p text.0 part.slashless

text_before : (w rest : List ℕ) → IsText (w ++ rest) → IsText w
text_before [] rest h = tt
text_before (b ∷ w) rest h = (h.0, text_before w rest h.1)

-- rule: http-path.part
found_at : (path : List ℕ) (route : Route) → IsText path → IsPathOf route path →
    (n : ℕ) × (numbered n ≡ route) × (first (rows root) path ≡ Some n)
found_at path Ccr text is = (
  4,
  refl,
  ap (first (rows root)) is
      ∙ at_prefix root (codes "ccr") (omega arith, tt)
      ∙ at_kid (97 ∷ 99 ∷ 115 ∷ 118 ∷ []) tops 1 99 (codes "cr") tops_indexed (omega arith) refl
      ∙ leaf_found (codes "ccr") 4 (is_text (codes "ccr") refl),
)
found_at path Sweep text is = (
  5,
  refl,
  ap (first (rows root)) is
      ∙ at_prefix root (codes "sweep") (omega arith, tt)
      ∙ at_kid (97 ∷ 99 ∷ 115 ∷ 118 ∷ []) tops 2 115 (codes "weep") tops_indexed (omega arith) refl
      ∙ leaf_found (codes "sweep") 5 (is_text (codes "sweep") refl),
)
found_at path Account text has =
    let is : path ≡ codes "/accounts/" ++ has.part =
    has.is ∙ ap (λ r. codes "/accounts/" ++ r) (append-nil has.part) in
    let part_text : IsText has.part =
    text_after (codes "/accounts/") has.part (subst IsText is text) in (
      3,
      refl,
      ap (first (rows root)) is ∙ to_account has.part
          ∙ part_found (level of_account [] None None None) 3 has.part account_slashed has.is_part
          part_text,
    )
found_at path Credits text has =
    let part_text : IsText has.part = text_before has.part (codes "/credits")
    (text_after (codes "/accounts/") (has.part ++ codes "/credits") (subst IsText has.is text)) in (
      1,
      refl,
      ap (first (rows root)) has.is ∙ to_account (has.part ++ codes "/credits")
          ∙ more_found (level of_account [] None None None) (Some 3) has.part (codes "credits")
          account_slashed has.is_part part_text
          ∙ at_kid (97 ∷ 99 ∷ 115 ∷ []) of_account 1 99 (codes "redits") of_account_indexed
          (omega arith) refl
          ∙ leaf_found (codes "credits") 1 (is_text (codes "credits") refl),
    )
found_at path Allowances text has =
    let part_text : IsText has.part = text_before has.part (codes "/allowances") (text_after
    (codes "/accounts/") (has.part ++ codes "/allowances") (subst IsText has.is text)) in (
      0,
      refl,
      ap (first (rows root)) has.is ∙ to_account (has.part ++ codes "/allowances")
          ∙ more_found (level of_account [] None None None) (Some 3) has.part (codes "allowances")
          account_slashed has.is_part part_text
          ∙ at_kid (97 ∷ 99 ∷ 115 ∷ []) of_account 0 97 (codes "llowances") of_account_indexed
          (omega arith) refl
          ∙ leaf_found (codes "allowances") 0 (is_text (codes "allowances") refl),
    )
found_at path Redeem text has =
    let part_text : IsText has.part = text_before has.part (codes "/redeem")
    (text_after (codes "/vouchers/") (has.part ++ codes "/redeem") (subst IsText has.is text)) in (
      6,
      refl,
      ap (first (rows root)) has.is ∙ to_voucher (has.part ++ codes "/redeem")
          ∙ more_found (level of_voucher [] None None None) None has.part (codes "redeem")
          voucher_slashed has.is_part part_text
          ∙ at_kid (114 ∷ []) of_voucher 0 114 (codes "edeem") of_voucher_indexed
          (omega arith) refl
          ∙ leaf_found (codes "redeem") 6 (is_text (codes "redeem") refl),
    )
found_at path Statement text has =
    let tail : IsText (has.account ++ (codes "/statement/" ++ has.month)) =
    text_after (codes "/accounts/") (has.account ++ (codes "/statement/" ++ has.month))
    (subst IsText has.is text) in
    let account_text : IsText has.account =
    text_before has.account (codes "/statement/" ++ has.month) tail in
    let month_text : IsText has.month = text_after (codes "/statement/") has.month
    (text_after has.account (codes "/statement/" ++ has.month) tail) in (
      2,
      refl,
      ap (first (rows root)) has.is
          ∙ to_account (has.account ++ (codes "/statement/" ++ has.month))
          ∙ more_found (level of_account [] None None None) (Some 3) has.account
          (codes "statement/" ++ has.month) account_slashed has.is_account account_text
          ∙ at_kid (97 ∷ 99 ∷ 115 ∷ []) of_account 2 115 (codes "tatement/" ++ has.month)
          of_account_indexed (omega arith) refl
          ∙ at_prefix statement_node has.month (is_text (codes "statement/") refl)
          ∙ last_found 2 has.month has.is_month month_text,
    )

-- ---- the row

map_key_is : {K L : Type 0} (f : K → L) (o : Option K) → option_map f o ≡ map_key f o
map_key_is f None = refl
map_key_is f (Some k) = refl

row_is : (path : List ℕ) → route_at path ≡ map_key numbered (first (rows root) path)
row_is path = map_key_is (λ (r : RouteOf Route). r.value) (first route_table path)
    ∙ sym (first-rename (λ (r : RouteOf Route). r.value) route_table path)
    ∙ ap (λ (rs : RowsOf Route). first rs path) table_is
    ∙ first-rename numbered (rows root) path

row_found : (path : List ℕ) (route : Route) → IsText path → route_at path ≡ Some route →
    IsPathOf route path
row_found path route text h = by (first (rows root) path) refl (sym (row_is path) ∙ h)
  where
    by : (o : Option ℕ) → first (rows root) path ≡ o → map_key numbered o ≡ Some route →
        IsPathOf route path
    by None e h = absurd (cc)
    by (Some n) e h = subst (λ r. IsPathOf r path) (value_of (numbered n) route h)
        (path_of path n text e)

row_each : (path : List ℕ) (route : Route) → IsText path → IsPathOf route path →
    route_at path ≡ Some route
row_each path route text is =
    let at = found_at path route text is in
    row_is path ∙ ap (map_key numbered) at.2 ∙ ap Some at.1

-- rule: http-path.part
pub are_routes_paths : AreRoutesPaths
are_routes_paths = record { found = row_found; each = row_each }
