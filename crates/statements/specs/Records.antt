-- The records of an export, as the default writer of CSV writes them.
-- Source: profile.
use Rattle.std.specs.Prelude.{List, [], ◌∷◌, codes}
use Rattle.std.specs.Fmt.{decimal}
use Rattle.texts.specs.StreamWords.{Bytes}
use Rattle.csv.specs.Writing.{default_writer, row_text}
use Rattle.ledger.specs.ChargeColumns.{ChargeColumns}

abbrev pub header_fields : List Bytes
header_fields =
    codes "moment" ∷ codes "session" ∷ codes "group" ∷ codes "blocks" ∷ codes "rated"
    ∷ codes "collected" ∷ codes "uncollected" ∷ codes "covered" ∷ []

abbrev pub header_record : Bytes
header_record = row_text default_writer header_fields

abbrev pub charge_fields : ChargeColumns → List Bytes
charge_fields c =
    decimal c.moment ∷ c.session ∷ decimal c.group ∷ decimal c.blocks.0 ∷ decimal c.rated.0
    ∷ decimal c.collected.0 ∷ decimal c.uncollected.0 ∷ decimal c.covered.0 ∷ []

-- rule: export, statement-lines
abbrev pub charge_record : ChargeColumns → Bytes
charge_record c = row_text default_writer (charge_fields c)
