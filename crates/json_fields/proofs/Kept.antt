-- What a successful reading of an array's items says of them.
use Rattle.std.proofs.Common.{◌≡◌, ◌+◌, List, [], ◌∷◌, ◌++◌, length, Result, Ok, ap, ◌∙◌}
use Rattle.serde_json.specs.Data.{Data, Items}
use Rattle.serde_json.specs.Events.{items_len}
use Rattle.texts.proofs.Steps as steps
pub use Rattle.texts.proofs.Steps.{inside, same_value, bind_ok, where_ok}
use Rattle.json_fields.specs.declared.fault.WireFault.{WireFault}
use Rattle.json_fields.specs.Gives.{read_each, item_list}
use Rattle.json_fields.proofs.Loop.{item_list_length}

-- what each step keeps, all of them keep
pub kept : {A : Type 0} (read : List A → Data → Result A WireFault) (P : List A → Type 0)
    → ((done : List A) (d : Data) (x : A) → P done → read done d ≡ Ok x → P (done ++ x ∷ []))
    → (ds : Items) (done xs : List A) → P done → read_each read done ds ≡ Ok xs → P xs
kept read P step ds done xs h e = steps.kept read P step (item_list ds) done xs h e

-- as many are read as there are
pub counted : {A : Type 0} (read : List A → Data → Result A WireFault) (ds : Items)
    (done xs : List A) → read_each read done ds ≡ Ok xs → length xs ≡ length done + items_len ds
counted read ds done xs e = steps.counted read (item_list ds) done xs e
    ∙ ap (λ n. length done + n) (item_list_length ds)
