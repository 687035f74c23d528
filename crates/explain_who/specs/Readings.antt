-- What is read of the machine.
use Rattle.std.specs.Prelude.{ℕ, ◌/◌, min, Bool, true, false, ◌&&◌, ◌==◌, if◌then◌else◌, Option, Some, None, option_map}
use Rattle.arrayvec.specs.ArrayVec.{ArrayVec}
use Rattle.vsm_model.specs.declared.limits.Settings.{Settings}
use Rattle.vsm_model.specs.Names.{NamedState, word_of}
use Rattle.vsm_model.specs.Bytes.{load}
use Rattle.vsm_model.specs.State.{State, is_task}
use Rattle.bench_core.specs.Stands.{bench_of, settings_in}
use Rattle.bench_core.specs.declared.bench.Bench.{Bench}
use Rattle.explain_who.specs.Taken as taken
use Rattle.explain_who.specs.Taken.{taken_at}
use Rattle.explain_who.specs.Place as places
use Rattle.explain_who.specs.Place.{same_bytes, skipped}
use Rattle.explain_who.specs.declared.place.Place.{Place}
use Rattle.explain_who.specs.Holdings.{holding_of, no_holding, same_holding}
use Rattle.explain_who.specs.declared.holdings.Holding.{Holding}
use Rattle.explain_who.specs.declared.readings.Part.{Part}
use Rattle.explain_who.specs.declared.readings.Part.TheVariants as part
use Rattle.explain_who.specs.declared.readings.Subject.{Subject}
use Rattle.explain_who.specs.declared.readings.Subject.TheVariants as asked
use Rattle.explain_who.specs.declared.readings.Seen.{Seen}
use Rattle.explain_who.specs.declared.readings.Seen.TheVariants as seen

-- the bytes from an address on, at most 256, if each of them is in an assigned page
abbrev pub bytes_read : ℕ → ℕ → NamedState → Option (ArrayVec ℕ)
bytes_read address count m = option_map (λ bytes. record { items = bytes }) (load m.storage address (min count 256))

-- these bytes, and the storage at the first of them
abbrev pub place_read : ℕ → ℕ → NamedState → Place
place_read address count m =
    record {
      address = address;
      count = count;
      bytes = bytes_read address count m;
      subpool = m.storage.pages (address / 4096);
      taken = taken_at m.storage address;
    }

-- the word of a register, if the task exists
abbrev pub register_read : ℕ → ℕ → NamedState → Option ℕ
register_read task register m = if is_task m.storage task then Some (m.storage.words task register) else None

-- what the subpool of this number and owner has; nothing without an owner
abbrev pub holding_owned : Settings → State → ℕ → Option ℕ → Holding
holding_owned settings s number None = no_holding
holding_owned settings s number (Some owner) = holding_of settings s (record { number = number; owner = owner })

-- what the subpool has that a task sees at a number, whoever owns it
abbrev pub holding_seen : Settings → State → ℕ → ℕ → Holding
holding_seen settings s task number = holding_owned settings s number (s.sight task number)

-- the same if the task exists
abbrev pub holding_read : Settings → ℕ → ℕ → NamedState → Option Holding
holding_read settings task number m =
    if is_task m.storage task then Some (holding_seen settings m.storage task number) else None

-- what is asked for, as it is in a state
abbrev pub reading : Settings → Subject → NamedState → Seen
reading settings (asked.Bytes address count) m = seen.Place (place_read address count m)
reading settings (asked.Register task register) m = seen.Register (register_read task register m)
reading settings (asked.Name name) m = seen.Name (word_of m.names name.bytes)
reading settings (asked.Subpool task number) m = seen.Held (holding_read settings task number m)

-- as it is in the state of a bench
abbrev pub read_of : Bench → Subject → Seen
read_of bench asked = reading (settings_in bench) asked (bench_of bench).present

abbrev pub same_word : Option ℕ → Option ℕ → Bool
same_word None None = true
same_word (Some a) (Some b) = a == b
same_word _ _ = false

-- the storage of two readings is the same; only an address has storage
abbrev pub same_storage : Seen → Seen → Bool
same_storage (seen.Place a) (seen.Place b) = places.same_storage a b
same_storage _ _ = true

-- all else of two readings is the same: the bytes of an address
abbrev pub same_value : Seen → Seen → Bool
same_value (seen.Place a) (seen.Place b) = same_bytes a.bytes b.bytes
same_value (seen.Register a) (seen.Register b) = same_word a b
same_value (seen.Name a) (seen.Name b) = same_word a b
same_value (seen.Held None) (seen.Held None) = true
same_value (seen.Held (Some a)) (seen.Held (Some b)) = same_holding a b
same_value _ _ = false

abbrev pub same_part : Part → Seen → Seen → Bool
same_part part.Storage a b = same_storage a b
same_part part.Value a b = same_value a b

-- two readings are the same
abbrev pub same : Seen → Seen → Bool
same a b = same_storage a b && same_value a b

-- the storage is taken; only an address has storage
abbrev pub is_taken : Seen → Bool
is_taken (seen.Place p) = taken.is_taken p.taken
is_taken (seen.Register word) = false
is_taken (seen.Name word) = false
is_taken (seen.Held holding) = false

-- how many bytes a line leaves out at the front
abbrev pub skip_of : Seen → Seen → ℕ
skip_of (seen.Place a) (seen.Place b) = skipped a.count a.bytes b.bytes
skip_of _ _ = 0
