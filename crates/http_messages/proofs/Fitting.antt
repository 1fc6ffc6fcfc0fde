-- Routes that are added one after another, each of which fits among those before it.
use Rattle.std.proofs.Common.{◌≡◌, ◌∙◌, ◌<◌, ◌≤◌, ◌+◌, ℕ, List, [], ◌∷◌, ap, drop, get_or}
use Rattle.std.proofs.Common.{length, refl, subst, sym}
use Rattle.std.proofs.lemmas.List.{drop_more}
use Rattle.std.proofs.Math.ListN.{drop_of_length-le}
use Rattle.texts.specs.StreamWords.{Bytes}
use Rattle.matchit.specs.Route.{scan}
use Rattle.http_messages.specs.Routes.{every_route, about_route}
use Rattle.http_messages.specs.Table.{RouteRows, with_routes}
use Rattle.http_messages.specs.MessageParts.{Fits, AreFitting}
use Rattle.http_messages.specs.Table.{added}
use Rattle.http_messages.specs.declared.routes.Route.{Route}

-- the routes that are left fit, and make of these rows what all of them make of the first rows
pub record IsAddedTo (all : List Route) (first : RouteRows) (left : List Route) (rows : RouteRows) :
    Type 0 where
  pub fit : AreFitting left rows
  pub made : with_routes left rows ≡ with_routes all first

-- the next one, at a place of the list
next_is : (all : List Route) (first : RouteRows) (i : ℕ) (d : Route) (rows : RouteRows) →
    i < length all →
    IsAddedTo all first (drop i all) rows →
    IsAddedTo all first (get_or all i d ∷ drop (i + 1) all) rows
next_is all first i d rows less so =
    subst (λ left. IsAddedTo all first left rows) (drop_more all i d less) so

pub next_fits : (all : List Route) (first : RouteRows) (i : ℕ) (d : Route) (rows : RouteRows)
    (text : Bytes) → text ≡ (about_route (get_or all i d)).pattern → i < length all →
    IsAddedTo all first (drop i all) rows → Fits text rows
next_fits all first i d rows text is less so =
    subst (λ t. Fits t rows) (sym is) (next_is all first i d rows less so).fit.0

pub one_added : (all : List Route) (first : RouteRows) (i : ℕ) (d : Route) (rows new : RouteRows)
    (text : Bytes) → text ≡ (about_route (get_or all i d)).pattern →
    new ≡ added text (get_or all i d) rows → i < length all →
    IsAddedTo all first (drop i all) rows → IsAddedTo all first (drop (i + 1) all) new
one_added all first i d rows new text is adds less so =
    let route : Route = get_or all i d in
    let rest : List Route = drop (i + 1) all in
    let next : IsAddedTo all first (route ∷ rest) rows = next_is all first i d rows less so in
    let e : new ≡ added (about_route route).pattern route rows =
    adds ∙ ap (λ t. added t route rows) is in
    record {
      fit = subst (AreFitting rest) (sym e) next.fit.1;
      made = ap (with_routes rest) e ∙ next.made;
    }

-- after the last one
-- rule: http-path
pub all_added : (all : List Route) (first : RouteRows) (i : ℕ) (rows : RouteRows) → length all ≤ i →
    IsAddedTo all first (drop i all) rows → rows ≡ with_routes all first
all_added all first i rows less so =
    (subst (λ left. IsAddedTo all first left rows) (drop_of_length-le all less) so).made

-- each of ours
-- rule: http-path
pub all_fit : AreFitting every_route []
unfolding scan
all_fit = (refl, (refl, (refl, (refl, (refl, (refl, (refl, tt)))))))
