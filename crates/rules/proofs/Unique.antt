-- From one input no second answer meets what a public function of this crate ensures: of the contracts themselves, as Rattle reads them. Assumes nothing.
use mathlib.Core.Path.{◌≡◌, sym, ◌∙◌, ap}
use mathlib.Core.List.{List}
use Prim.Native.Nat.{ℕ}
use Rattle.meaning.specs.Base.{Outcome}
use Rattle.tri.specs.Once.{Once, OnceIn}
use Rattle.rules.proofs.fault.Kinds as FaultKinds
use Rattle.rules.proofs.fault.Reads as FaultReads
use Rattle.rules.proofs.check_in.Kinds as CheckInKinds
use Rattle.rules.proofs.check_in.Reads as CheckInReads
use Rattle.rules.proofs.check.Kinds as CheckKinds
use Rattle.rules.proofs.check.Reads as CheckReads

-- two results and two rooms
pub same_pair : {A B : Type 0} {a b : A} {c d : B} → a ≡ b → c ≡ d → ◌≡◌ {A = A × B} (a, c) (b, d)
same_pair {A = A} {B = B} {a = a} {d = d} p q = ap {B = A × B} (λ (x : B). (a, x)) q ∙ ap {B = A × B} (λ (x : A). (x, d)) p

pub fault_once : Once 2 FaultKinds.ps FaultKinds.r FaultReads.Post
fault_once κs a x y s t p q = p ∙ sym q

-- the outcome, and every byte of the node work
pub check_once : OnceIn 3 CheckKinds.ps CheckKinds.r CheckReads.Post {A = Outcome × List ℕ} (λ κs x s. (x, s.1.1.0.now))
check_once κs a x y s t p q = same_pair (p.answers ∙ sym q.answers) (p.works ∙ sym q.works)

pub check_in_once : OnceIn 3 CheckInKinds.ps CheckInKinds.r CheckInReads.Post {A = Outcome × List ℕ} (λ κs x s. (x, s.1.1.0.now))
check_in_once κs a x y s t p q = same_pair (p.answers ∙ sym q.answers) (p.works ∙ sym q.works)
