-- The data model of a model file is one that its tables stand for.
-- Assumes nothing.
use Rattle.std.specs.Prelude.{◌≡◌, List, ℕ}
use Rattle.std.proofs.Common.{sym}
use Rattle.relations.specs.Tables.{Tabled, Alike}
use Rattle.evaluation.specs.Standing.{Standing}
use Rattle.model_records.specs.Layout.{node_count}
use Rattle.model_records.specs.Contents.{model_from}
use Rattle.model_records.specs.Valid.{ValidModel, all_named}

abbrev pub stands : (bs : List ℕ) {ds : List ℕ} → ValidModel ds → (table alike : List ℕ) (n : ℕ) → n ≡ node_count ds
    → Tabled (model_from ds) bs table → Alike (model_from ds) bs alike → Standing bs table alike n
stands bs {ds} ok table alike n count tabled values =
    record { model = model_from ds; named = all_named ok; size_is = sym count; tabled = tabled; alike_is = values }
