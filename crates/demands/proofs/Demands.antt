-- THE CLEARANCE DEMANDS: an accepted clearance is right, and where a select is never unmet the complete clearance is accepted. Each is the
-- theorem over the tests, with what the tests say in the place of the tests. Assumes nothing.
use Prim.Native.Nat.{ℕ, ◌≤◌, ◌<◌}
use mathlib.Core.Path.{◌≡◌}
use mathlib.Core.Logic.Iff
use mathlib.Core.Logic.{◌↔◌}
use mathlib.Core.List.{List}
use lib.ListN.{length}
use Rattle.meaning.specs.Base.{Clean}
use Rattle.meaning.specs.Book.{symbols, nodes, selects, type_of, WellFormed}
use Rattle.meaning.specs.Table.{Readable}
use Rattle.meaning.specs.Rules.{unmet}
use Rattle.meaning.specs.Valid.{Valid, Unmet}
use Rattle.meaning.specs.Sets.{full_sets}
use Rattle.meaning.specs.Findings.{select_of, finding_kind, finding_outcome, complete}
use Rattle.demands.specs.Refused.{Admitted}
use Rattle.demands.specs.Paths.{ClosedTree}
use Rattle.demands.proofs.Bools.{Denies, denies_it}
use Rattle.demands.proofs.Readable.{readable_iff}
use Rattle.demands.proofs.ValidIff.{valid_iff}
use Rattle.demands.proofs.Witness.{says_unmet}
use Rattle.demands.proofs.FindingRefusals.{clearance_accepted}
use Rattle.demands.proofs.Walks.{clearance_iff}
use Rattle.demands.proofs.Sound.{sound_tests}
use Rattle.demands.proofs.Full.{complete-kind, complete_head, complete_tests}

denies_unmet : (m t : List ℕ) (k : ℕ) → Denies (unmet m t k) (¬ Unmet m t k)
denies_unmet m t k = denies_it (says_unmet m t k)

-- SOUND: where a clearance is accepted, no readable valid table leaves its select unmet
pub clearance_sound : (m f : List ℕ) (node_room symbol_room : ℕ) → finding_kind f ≡ 1 → finding_outcome m f node_room symbol_room ≡ Clean
    → (t : List ℕ) → Readable t (symbols m) → Valid m t → ¬ Unmet m t (select_of f)
clearance_sound m f node_room symbol_room kind accepted t readable valid =
    let a = (clearance_accepted m f node_room symbol_room kind).0 accepted in
    (denies_unmet m t (select_of f)).0
    (sound_tests m f t a.1 ((readable_iff t (symbols m)).1 readable) ((valid_iff m t a.0.0).1 valid))

-- COMPLETE: in a well-formed model of boolean and tristate symbols alone, where no readable valid table leaves select q unmet, the complete
-- clearance is accepted, if it is short enough to be a finding and both rooms are long enough. It is about q: `complete-select`
pub clearance_complete : (m : List ℕ) (q node_room symbol_room : ℕ) → WellFormed m → q < selects m → ((s : ℕ) → s < symbols m → type_of m s ≤ 1)
    → ((t : List ℕ) → Readable t (symbols m) → Valid m t → ¬ Unmet m t q) → length (complete m q) ≤ 65535 → nodes m ≤ node_room
    → symbols m ≤ symbol_room → finding_outcome m (complete m q) node_room symbol_room ≡ Clean
clearance_complete m q node_room symbol_room wf lt all clear short node_fits symbol_fits =
    (clearance_accepted m (complete m q) node_room symbol_room (complete-kind m q)).1 (
      (wf, (complete_head m q lt short, (node_fits, symbol_fits))),
      complete_tests m q wf all
          (λ t readable clean. (denies_unmet m t q).1 (clear t ((readable_iff t (symbols m)).0 readable) ((valid_iff m t wf).0 clean)))
          short,
    )

-- CLOSED: a clearance is accepted exactly where nothing of 1 to 4, 21, 7 and 8 is wrong and its bytes behind the head are one tree to the end, with no
-- more than 64 splits on a path, every leaf of which is closed on its path: its rule is broken under every independent pick
pub clearance_accepted_closes : (m f : List ℕ) (node_room symbol_room : ℕ) → finding_kind f ≡ 1
    → (finding_outcome m f node_room symbol_room ≡ Clean)
    ↔ (Admitted m f node_room symbol_room × ClosedTree m (select_of f) f 64 (full_sets m) 4 (length f))
clearance_accepted_closes m f node_room symbol_room kind =
    Iff.trans (clearance_accepted m f node_room symbol_room kind) (Iff.and Iff.rfl (clearance_iff m f))
