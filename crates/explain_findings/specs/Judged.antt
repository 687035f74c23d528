-- What is found of a statement or a PEEK, by what is known of the storage: where fullwords are at home, which line took
-- a doubleword or got a cell, what ended the areas and cells of names, and which line stored a byte.
use Rattle.std.specs.Prelude.{ℕ, ◌/◌, ◌≤◌, Option, Some, None, List, length, ⊤}
use Rattle.bench_core.specs.Machine.{looked_up}
use Rattle.macro_statements.specs.Requests.{Act, Written, act, named, number, peek, register}
use Rattle.vsm_model.specs.Names.{NamedState}
use Rattle.vsm_model.specs.Regions.{doublewords}
use Rattle.vsm_model.specs.Services as services
use Rattle.vsm_model.specs.Services.{Service}
use Rattle.explain_findings.specs.Accesses.{outside_at}
use Rattle.explain_findings.specs.Endings.{name_used}
use Rattle.explain_findings.specs.Parts.{part_at}
use Rattle.explain_findings.specs.Stores.{first_unset}
use Rattle.explain_findings.specs.declared.findings.Finding.{Finding}
use Rattle.explain_findings.specs.declared.findings.Outside.{Outside}
use Rattle.explain_findings.specs.declared.findings.Part.{Part}
use Rattle.explain_findings.specs.declared.findings.Unset.{Unset}
use Rattle.explain_findings.specs.declared.homes.Home.{Home}

-- the name in a value, if it's one
abbrev pub name_of : Written → Option (List ℕ)
name_of (number n) = None
name_of (named name) = Some name
name_of (register n) = None

-- a service stores at most 256 bytes
abbrev pub HasFewBytes : Service → Type 0
HasFewBytes (services.store address bytes) = length bytes ≤ 256
HasFewBytes _ = ⊤

-- what ended the area or the cell of a name that is used
abbrev pub stale_by : (List ℕ → Option ℕ) → Option (List ℕ) → Option ℕ
stale_by ended None = None
stale_by ended (Some name) = ended name

module _ (homes : ℕ → Home) where
  abbrev pub outside_by : Option Service → Option Outside
  outside_by (Some (services.store address bytes)) = outside_at homes address (length bytes)
  outside_by _ = None

  abbrev pub part_by : (ℕ → Option ℕ) → Option Service → Option Part
  part_by lines (Some (services.release r)) = part_at homes lines (r.address / 8) (doublewords r.length)
  part_by lines _ = None

  -- of a statement that asks for this service; of a release, whatever its answer is
  abbrev pub finding_by : (ℕ → Option ℕ) → (List ℕ → Option ℕ) → Option Service → Act → Finding
  finding_by lines ended service x =
      record {
        outside = outside_by service;
        stale = stale_by ended (name_used (act x));
        part = part_by lines service;
        unset = None;
      }

  abbrev pub read_by : Option ℕ → ℕ → Option Outside
  read_by None count = None
  read_by (Some word) count = outside_at homes word count

  abbrev pub unset_by : (ℕ → Option ℕ) → (ℕ → Option ℕ) → Option ℕ → ℕ → Option Unset
  unset_by cells stored None count = None
  unset_by cells stored (Some word) count = first_unset homes cells stored count word

  abbrev pub reading_by : (ℕ → Option ℕ) → (ℕ → Option ℕ) → (List ℕ → Option ℕ) → NamedState → Written → ℕ → Finding
  reading_by cells stored ended m address count =
      record {
        outside = read_by (looked_up m address) count;
        stale = stale_by ended (name_used (peek address count));
        part = None;
        unset = unset_by cells stored (looked_up m address) count;
      }
