-- From one input no second answer meets what a public function of this crate ensures: of the contracts themselves, as Rattle reads them. Assumes nothing.
use mathlib.Core.Path.{sym, ◌∙◌}
use Rattle.tri.specs.Once.{Once, OnceIn}
use Rattle.spell.proofs.same_spelling.Kinds as SameSpellingKinds
use Rattle.spell.proofs.same_spelling.Reads as SameSpellingReads
use Rattle.spell.proofs.Spelling.text.Kinds as TextKinds
use Rattle.spell.proofs.Spelling.text.Reads as TextReads
use Rattle.spell.proofs.decimal.Kinds as DecimalKinds
use Rattle.spell.proofs.decimal.Reads as DecimalReads
use Rattle.spell.proofs.LeafFromValue.from.Kinds as FromKinds
use Rattle.spell.proofs.LeafFromValue.from.Reads as FromReads
use Rattle.spell.proofs.letter_of.Kinds as LetterOfKinds
use Rattle.spell.proofs.letter_of.Reads as LetterOfReads

pub same_spelling_once : Once 2 SameSpellingKinds.ps SameSpellingKinds.r SameSpellingReads.Post
same_spelling_once κs a x y s t p q = p ∙ sym q

pub from_once : Once 0 FromKinds.ps FromKinds.r FromReads.Post
from_once κs a x y s t p q = p ∙ sym q

pub letter_of_once : Once 0 LetterOfKinds.ps LetterOfKinds.r LetterOfReads.Post
letter_of_once κs a x y s t p q = p ∙ sym q

pub decimal_once : Once 0 DecimalKinds.ps DecimalKinds.r DecimalReads.Post
decimal_once κs a x y s t p q = p.0 ∙ sym q.0

pub text_once : OnceIn 1 TextKinds.ps TextKinds.r TextReads.Post (λ κs x s. x.now)
text_once κs a x y s t p q = p ∙ sym q
