-- The table of routes: which route a path has, and what a request asks by it.
-- Source: profile.
use Rattle.std.specs.Prelude.{◌≡◌, List, [], ◌∷◌, ◌==◌, Option, Some, None, Result, Ok, Err}
use Rattle.std.specs.Prelude.{option_map, if◌then◌else◌}
use Rattle.std.specs.List.{list_any}
use Rattle.texts.specs.StreamWords.{Bytes}
use Rattle.matchit.specs.Rows.{RowsOf}
use Rattle.matchit.specs.Seek.{first}
use Rattle.matchit.specs.Level.{IsText}
use Rattle.matchit.specs.Route.{parse_route, Scan}
use Rattle.matchit.specs.Router.{RouteOf, route_from}
use Rattle.matchit.specs.Order.{placed}
use Rattle.matchit.specs.declared.InsertError.{InsertError}
use Rattle.http_messages.specs.Asking.{Asking, refuses}
use Rattle.http_messages.specs.Requests.{Ask}
use Rattle.http_messages.specs.Routes.{every_route, about_route, asking_by, IsPathOf}
use Rattle.http_messages.specs.Statuses.{not_found, method_not_allowed}
use Rattle.http_messages.specs.declared.routes.Route.{Route}

abbrev pub RouteRows : Type 0
RouteRows = RowsOf (RouteOf Route)

-- rows with one more, by what its pattern reads as
abbrev pub added_read : Result Scan InsertError → Route → RouteRows → RouteRows
added_read (Ok scan) value rows = placed (scan.pattern, route_from scan value) rows
added_read (Err e) value rows = rows

abbrev pub added : Bytes → Route → RouteRows → RouteRows
added text value rows = added_read (parse_route text) value rows

-- rows with one more for each of these routes
abbrev pub with_routes : List Route → RouteRows → RouteRows
with_routes [] rows = rows
with_routes (route ∷ rest) rows =
    with_routes rest (added (about_route route).pattern route rows)

-- the table has a row for each route
-- rule: http-path
unfoldable pub route_table : RouteRows
route_table = with_routes every_route []

-- the route of a path
-- rule: http-path.part
abbrev pub route_at : Bytes → Option Route
route_at path = option_map (λ r. r.value) (first route_table path)

-- a path of bytes has a route exactly where it is, in words, one of that route's
-- rule: http-path.part
pub record AreRoutesPaths : Type 0 where
  pub found : (path : Bytes) (route : Route) → IsText path → route_at path ≡ Some route →
      IsPathOf route path
  pub each : (path : Bytes) (route : Route) → IsText path → IsPathOf route path →
      route_at path ≡ Some route

-- what a target names: the route of its path; none where it has a query, a question mark
-- rule: http-path
abbrev pub route_of : Bytes → Option Route
route_of target = if list_any (λ b. b == 63) target then None else route_at target

-- first the path, then the method, then what is read
-- rule: http-path
abbrev pub asked_of : Ask → Asking
asked_of ask = asked_by (route_of ask.target) ask
  where
    asked_by : Option Route → Ask → Asking
    asked_by None asked = refuses not_found
    asked_by (Some route) asked = if (about_route route).has asked.method
        then asking_by route asked.method asked.target asked.body else refuses method_not_allowed
