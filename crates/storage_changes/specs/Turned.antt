-- A record with the value that its places had.
use Rattle.std.specs.Prelude.{ℕ, zero, suc, ◌+◌, ◌*◌, not, List, [], ◌∷◌, Option}
use Rattle.vsm_model.specs.Bytes.{byte_or_zero}
use Rattle.subpool_storage.specs.Subpools.{owned_by}
use Rattle.storage_changes.specs.declared.record.ObtainRecord.{ObtainRecord}
use Rattle.storage_changes.specs.declared.record.Record.{Record}
use Rattle.storage_changes.specs.declared.record.Record.TheVariants.{Area, Extent, Pages, Own, Queues, Register, Bytes}
use Rattle.storage_changes.specs.declared.record.Record.TheVariants.{Registers, Task, Turn, Sharer, Pass}
use Rattle.storage_changes.specs.declared.record.Record.TheVariants.{CellPool, CellExtent, Cell, Obtain}
use Rattle.storage_changes.specs.Walk.{Walk}
use Rattle.storage_changes.specs.State.{StorageState}
use Rattle.storage_changes.specs.Steps.{step}

-- the count bytes from the address on, 0 where there is none
abbrev pub read : (ℕ → Option ℕ) → ℕ → ℕ → List ℕ
read bytes a zero = []
read bytes a (suc count) = byte_or_zero (bytes a) ∷ read bytes (suc a) count

-- the words of four registers, from the first on
abbrev pub four_words : (ℕ → ℕ) → ℕ → List ℕ
four_words words first = words first ∷ words (first + 1) ∷ words (first + 2) ∷ words (first + 3) ∷ []

-- an area with the other value, and a register with the word that it had
abbrev pub turned_obtain : StorageState → ObtainRecord → ObtainRecord
turned_obtain m r =
    record {
      area = record r.area { free = not r.area.free };
      register = record r.register { word = m.tasks.words r.register.task r.register.register };
    }

abbrev pub turned : StorageState → Record → Record
turned m (Area r) = Area (record r { free = not r.free })
turned m (Extent r) = Extent (record r { present = not r.present })
turned m (Pages r) = Pages (record r { assigned = not r.assigned })
turned m (Own r) = Own (record r { present = not r.present })
turned m (Queues r) = Queues r
turned m (Register r) = Register (record r { word = m.tasks.words r.task r.register })
turned m (Registers r) = Registers (record r { words = four_words (m.tasks.words r.task) r.first })
turned m (Task r) = Task (record r { present = not r.present })
turned m (Turn r) = Turn (record { task = m.tasks.current })
turned m (Sharer r) = Sharer (record r { present = not r.present })
turned m (Pass r) = Pass (record { subpool = owned_by r.subpool r.to; to = r.subpool.owner })
turned m (CellPool r) = CellPool (record r { present = not r.present })
turned m (CellExtent r) = CellExtent (record r { present = not r.present })
turned m (Cell r) = Cell (record r { free = not r.free })
turned m (Bytes r) = Bytes (record r { bytes = read m.bytes (16 * r.block) 16 })
turned m (Obtain r) = Obtain (turned_obtain m r)

-- the records that lead back, the last one first, before `done`
abbrev pub back_onto : Walk → List Record → List Record → List Record
back_onto w done [] = done
back_onto w done (r ∷ rs) = back_onto (step w r) (turned w.state r ∷ done) rs
