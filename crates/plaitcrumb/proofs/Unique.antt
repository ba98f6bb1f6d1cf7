-- From one input no second answer, and no second byte of a room, meets what an exported function ensures: of the contracts themselves, as Rattle reads them. Assumes nothing.
use mathlib.Core.Path.{◌≡◌, sym, ◌∙◌}
use mathlib.Core.List.{List}
use Prim.Native.Nat.{ℕ}
use Rattle.tri.specs.Once.{Once, OnceIn}
use Rattle.rules.proofs.Unique.{same_pair}
use Rattle.plaitcrumb.proofs.plaitcrumb_check_table.Kinds as CheckKinds
use Rattle.plaitcrumb.proofs.plaitcrumb_check_table.Reads as CheckReads
use Rattle.plaitcrumb.proofs.plaitcrumb_check_book.Kinds as BookKinds
use Rattle.plaitcrumb.proofs.plaitcrumb_check_book.Reads as BookReads
use Rattle.plaitcrumb.proofs.plaitcrumb_check_table_in.Kinds as CheckInKinds
use Rattle.plaitcrumb.proofs.plaitcrumb_check_table_in.Reads as CheckInReads
use Rattle.plaitcrumb.proofs.plaitcrumb_check_finding.Kinds as FindingKinds
use Rattle.plaitcrumb.proofs.plaitcrumb_check_finding.Reads as FindingReads
use Rattle.plaitcrumb.proofs.plaitcrumb_name.Kinds as NameKinds
use Rattle.plaitcrumb.proofs.plaitcrumb_name.Reads as NameReads
use Rattle.plaitcrumb.proofs.plaitcrumb_name_in.Kinds as NameInKinds
use Rattle.plaitcrumb.proofs.plaitcrumb_name_in.Reads as NameInReads

pub check_table_once : OnceIn 3 CheckKinds.ps CheckKinds.r CheckReads.Post {A = ℕ × List ℕ} (λ κs x s. (x, s.1.1.0.now))
check_table_once κs a x y s t p q = same_pair (p.0 ∙ sym q.0) (p.1 ∙ sym q.1)

pub check_book_once : Once 1 BookKinds.ps BookKinds.r BookReads.Post
check_book_once κs a x y s t p q = p ∙ sym q

pub check_table_in_once : OnceIn 3 CheckInKinds.ps CheckInKinds.r CheckInReads.Post {A = ℕ × List ℕ} (λ κs x s. (x, s.1.1.0.now))
check_table_in_once κs a x y s t p q = same_pair (p.0 ∙ sym q.0) (p.1 ∙ sym q.1)

-- the answer, the node work and the symbol work afterwards
abbrev Left : Type 0
Left = ℕ × List ℕ × List ℕ

one : {r s : ℕ} {v w a b : List ℕ} → r ≡ s → v ≡ w → a ≡ b → ◌≡◌ {A = Left} (r, v, a) (s, w, b)
one p q e = rw (p, q, e)

pub check_finding_once : OnceIn 4 FindingKinds.ps FindingKinds.r FindingReads.Post {A = Left} (λ κs x s. (x, s.1.1.0.now, s.1.1.1.0.now))
check_finding_once κs a x y s t p q = one (p.0 ∙ sym q.0) (p.1 ∙ sym q.1) (p.2 ∙ sym q.2)

pub name_once : Once 1 NameKinds.ps NameKinds.r NameReads.Post
name_once κs a x y s t p q = p ∙ sym q

pub name_in_once : Once 1 NameInKinds.ps NameInKinds.r NameInReads.Post
name_in_once κs a x y s t p q = p ∙ sym q
