-- From one input no second answer meets what a public function of this crate ensures: of the contracts themselves, as Rattle reads them. Assumes nothing.
use mathlib.Core.Path.{◌≡◌, sym, ◌∙◌, ap}
use Prim.Native.Nat.{ℕ}
use Rattle.tri.specs.Once.{Once, OnceIn}
use Rattle.fields.specs.declared.Node.{Node}
use Rattle.fields.proofs.Numbered.{same_op, same_type, same_node_op, same_symbol_type}
use Rattle.fields.proofs.OpTryFromU8.try_from.Kinds as OpTryFromKinds
use Rattle.fields.proofs.OpTryFromU8.try_from.Reads as OpTryFromReads
use Rattle.fields.proofs.SymbolTypeTryFromU8.try_from.Kinds as SymbolTypeTryFromKinds
use Rattle.fields.proofs.SymbolTypeTryFromU8.try_from.Reads as SymbolTypeTryFromReads
use Rattle.fields.proofs.node_op.Kinds as NodeOpKinds
use Rattle.fields.proofs.node_op.Reads as NodeOpReads
use Rattle.fields.proofs.symbol_type.Kinds as SymbolTypeKinds
use Rattle.fields.proofs.symbol_type.Reads as SymbolTypeReads
use Rattle.fields.proofs.total.Kinds as TotalKinds
use Rattle.fields.proofs.total.Reads as TotalReads
use Rattle.fields.proofs.modules.Kinds as ModulesKinds
use Rattle.fields.proofs.modules.Reads as ModulesReads
use Rattle.fields.proofs.start.Kinds as StartKinds
use Rattle.fields.proofs.start.Reads as StartReads
use Rattle.fields.proofs.count.Kinds as CountKinds
use Rattle.fields.proofs.count.Reads as CountReads
use Rattle.fields.proofs.symbols.Kinds as SymbolsKinds
use Rattle.fields.proofs.symbols.Reads as SymbolsReads
use Rattle.fields.proofs.nodes.Kinds as NodesKinds
use Rattle.fields.proofs.nodes.Reads as NodesReads
use Rattle.fields.proofs.defaults.Kinds as DefaultsKinds
use Rattle.fields.proofs.defaults.Reads as DefaultsReads
use Rattle.fields.proofs.selects.Kinds as SelectsKinds
use Rattle.fields.proofs.selects.Reads as SelectsReads
use Rattle.fields.proofs.ranges.Kinds as RangesKinds
use Rattle.fields.proofs.ranges.Reads as RangesReads
use Rattle.fields.proofs.choices.Kinds as ChoicesKinds
use Rattle.fields.proofs.choices.Reads as ChoicesReads
use Rattle.fields.proofs.members.Kinds as MembersKinds
use Rattle.fields.proofs.members.Reads as MembersReads
use Rattle.fields.proofs.texts.Kinds as TextsKinds
use Rattle.fields.proofs.texts.Reads as TextsReads
use Rattle.fields.proofs.text_start.Kinds as TextStartKinds
use Rattle.fields.proofs.text_start.Reads as TextStartReads
use Rattle.fields.proofs.type_of.Kinds as TypeOfKinds
use Rattle.fields.proofs.type_of.Reads as TypeOfReads
use Rattle.fields.proofs.name_length.Kinds as NameLengthKinds
use Rattle.fields.proofs.name_length.Reads as NameLengthReads
use Rattle.fields.proofs.name_offset.Kinds as NameOffsetKinds
use Rattle.fields.proofs.name_offset.Reads as NameOffsetReads
use Rattle.fields.proofs.prompt_of.Kinds as PromptOfKinds
use Rattle.fields.proofs.prompt_of.Reads as PromptOfReads
use Rattle.fields.proofs.depend_of.Kinds as DependOfKinds
use Rattle.fields.proofs.depend_of.Reads as DependOfReads
use Rattle.fields.proofs.op_of.Kinds as OpOfKinds
use Rattle.fields.proofs.op_of.Reads as OpOfReads
use Rattle.fields.proofs.zero_of.Kinds as ZeroOfKinds
use Rattle.fields.proofs.zero_of.Reads as ZeroOfReads
use Rattle.fields.proofs.left_of.Kinds as LeftOfKinds
use Rattle.fields.proofs.left_of.Reads as LeftOfReads
use Rattle.fields.proofs.right_of.Kinds as RightOfKinds
use Rattle.fields.proofs.right_of.Reads as RightOfReads
use Rattle.fields.proofs.node_at.Kinds as NodeAtKinds
use Rattle.fields.proofs.node_at.Reads as NodeAtReads
use Rattle.fields.proofs.default_symbol.Kinds as DefaultSymbolKinds
use Rattle.fields.proofs.default_symbol.Reads as DefaultSymbolReads
use Rattle.fields.proofs.default_value.Kinds as DefaultValueKinds
use Rattle.fields.proofs.default_value.Reads as DefaultValueReads
use Rattle.fields.proofs.default_condition.Kinds as DefaultConditionKinds
use Rattle.fields.proofs.default_condition.Reads as DefaultConditionReads
use Rattle.fields.proofs.selector_of.Kinds as SelectorOfKinds
use Rattle.fields.proofs.selector_of.Reads as SelectorOfReads
use Rattle.fields.proofs.target_of.Kinds as TargetOfKinds
use Rattle.fields.proofs.target_of.Reads as TargetOfReads
use Rattle.fields.proofs.condition_of.Kinds as ConditionOfKinds
use Rattle.fields.proofs.condition_of.Reads as ConditionOfReads
use Rattle.fields.proofs.range_symbol.Kinds as RangeSymbolKinds
use Rattle.fields.proofs.range_symbol.Reads as RangeSymbolReads
use Rattle.fields.proofs.low_of.Kinds as LowOfKinds
use Rattle.fields.proofs.low_of.Reads as LowOfReads
use Rattle.fields.proofs.high_of.Kinds as HighOfKinds
use Rattle.fields.proofs.high_of.Reads as HighOfReads
use Rattle.fields.proofs.range_condition.Kinds as RangeConditionKinds
use Rattle.fields.proofs.range_condition.Reads as RangeConditionReads
use Rattle.fields.proofs.choice_kind.Kinds as ChoiceKindKinds
use Rattle.fields.proofs.choice_kind.Reads as ChoiceKindReads
use Rattle.fields.proofs.mandatory_of.Kinds as MandatoryOfKinds
use Rattle.fields.proofs.mandatory_of.Reads as MandatoryOfReads
use Rattle.fields.proofs.choice_prompt.Kinds as ChoicePromptKinds
use Rattle.fields.proofs.choice_prompt.Reads as ChoicePromptReads
use Rattle.fields.proofs.first_member.Kinds as FirstMemberKinds
use Rattle.fields.proofs.first_member.Reads as FirstMemberReads
use Rattle.fields.proofs.member_count.Kinds as MemberCountKinds
use Rattle.fields.proofs.member_count.Reads as MemberCountReads
use Rattle.fields.proofs.member_symbol.Kinds as MemberSymbolKinds
use Rattle.fields.proofs.member_symbol.Reads as MemberSymbolReads
use Rattle.fields.proofs.width.Kinds as WidthKinds
use Rattle.fields.proofs.width.Reads as WidthReads
use Rattle.fields.proofs.is_three.Kinds as IsThreeKinds
use Rattle.fields.proofs.is_three.Reads as IsThreeReads
use Rattle.fields.proofs.is_leaf.Kinds as IsLeafKinds
use Rattle.fields.proofs.is_leaf.Reads as IsLeafReads
use Rattle.fields.proofs.name_start.Kinds as NameStartKinds
use Rattle.fields.proofs.name_start.Reads as NameStartReads
use Rattle.fields.proofs.target_from.Kinds as TargetFromKinds
use Rattle.fields.proofs.target_from.Reads as TargetFromReads
use Rattle.fields.proofs.default_symbol_from.Kinds as DefaultSymbolFromKinds
use Rattle.fields.proofs.default_symbol_from.Reads as DefaultSymbolFromReads
use Rattle.fields.proofs.member_symbol_from.Kinds as MemberSymbolFromKinds
use Rattle.fields.proofs.member_symbol_from.Reads as MemberSymbolFromReads
use Rattle.fields.proofs.name_from.Kinds as NameFromKinds
use Rattle.fields.proofs.name_from.Reads as NameFromReads
use Rattle.fields.proofs.spelled_name.Kinds as SpelledNameKinds
use Rattle.fields.proofs.spelled_name.Reads as SpelledNameReads

pub total_once : Once 1 TotalKinds.ps TotalKinds.r TotalReads.Post
total_once κs a x y s t p q = p.0 ∙ sym q.0

pub modules_once : Once 1 ModulesKinds.ps ModulesKinds.r ModulesReads.Post
modules_once κs a x y s t p q = p.0 ∙ sym q.0

pub start_once : Once 1 StartKinds.ps StartKinds.r StartReads.Post
start_once κs a x y s t p q = p.0 ∙ sym q.0

pub count_once : Once 1 CountKinds.ps CountKinds.r CountReads.Post
count_once κs a x y s t p q = p.0 ∙ sym q.0

pub symbols_once : Once 1 SymbolsKinds.ps SymbolsKinds.r SymbolsReads.Post
symbols_once κs a x y s t p q = p.0 ∙ sym q.0

pub nodes_once : Once 1 NodesKinds.ps NodesKinds.r NodesReads.Post
nodes_once κs a x y s t p q = p.0 ∙ sym q.0

pub defaults_once : Once 1 DefaultsKinds.ps DefaultsKinds.r DefaultsReads.Post
defaults_once κs a x y s t p q = p.0 ∙ sym q.0

pub selects_once : Once 1 SelectsKinds.ps SelectsKinds.r SelectsReads.Post
selects_once κs a x y s t p q = p.0 ∙ sym q.0

pub ranges_once : Once 1 RangesKinds.ps RangesKinds.r RangesReads.Post
ranges_once κs a x y s t p q = p.0 ∙ sym q.0

pub choices_once : Once 1 ChoicesKinds.ps ChoicesKinds.r ChoicesReads.Post
choices_once κs a x y s t p q = p.0 ∙ sym q.0

pub members_once : Once 1 MembersKinds.ps MembersKinds.r MembersReads.Post
members_once κs a x y s t p q = p.0 ∙ sym q.0

pub texts_once : Once 1 TextsKinds.ps TextsKinds.r TextsReads.Post
texts_once κs a x y s t p q = p.0 ∙ sym q.0

pub text_start_once : Once 1 TextStartKinds.ps TextStartKinds.r TextStartReads.Post
text_start_once κs a x y s t p q = p.0 ∙ sym q.0

pub type_of_once : Once 1 TypeOfKinds.ps TypeOfKinds.r TypeOfReads.Post
type_of_once κs a x y s t p q = p ∙ sym q

pub name_length_once : Once 1 NameLengthKinds.ps NameLengthKinds.r NameLengthReads.Post
name_length_once κs a x y s t p q = p ∙ sym q

pub name_offset_once : Once 1 NameOffsetKinds.ps NameOffsetKinds.r NameOffsetReads.Post
name_offset_once κs a x y s t p q = p.0 ∙ sym q.0

pub prompt_of_once : Once 1 PromptOfKinds.ps PromptOfKinds.r PromptOfReads.Post
prompt_of_once κs a x y s t p q = p.0 ∙ sym q.0

pub depend_of_once : Once 1 DependOfKinds.ps DependOfKinds.r DependOfReads.Post
depend_of_once κs a x y s t p q = p.0 ∙ sym q.0

pub op_of_once : Once 1 OpOfKinds.ps OpOfKinds.r OpOfReads.Post
op_of_once κs a x y s t p q = p ∙ sym q

pub zero_of_once : Once 1 ZeroOfKinds.ps ZeroOfKinds.r ZeroOfReads.Post
zero_of_once κs a x y s t p q = p ∙ sym q

pub left_of_once : Once 1 LeftOfKinds.ps LeftOfKinds.r LeftOfReads.Post
left_of_once κs a x y s t p q = p.0 ∙ sym q.0

pub right_of_once : Once 1 RightOfKinds.ps RightOfKinds.r RightOfReads.Post
right_of_once κs a x y s t p q = p.0 ∙ sym q.0

-- a record is its four fields
same_record : {a b : Node} → a.op ≡ b.op → a.zero ≡ b.zero → a.left ≡ b.left → a.right ≡ b.right → a ≡ b
same_record {a} {b} o z l r =
    ap (λ (v : ℕ). record { op = v; zero = a.zero; left = a.left; right = a.right }) o ∙
    (ap (λ (v : ℕ). record { op = b.op; zero = v; left = a.left; right = a.right }) z ∙
    (ap (λ (v : ℕ). record { op = b.op; zero = b.zero; left = v; right = a.right }) l ∙
    ap (λ (v : ℕ). record { op = b.op; zero = b.zero; left = b.left; right = v }) r))

pub node_at_once : Once 1 NodeAtKinds.ps NodeAtKinds.r NodeAtReads.Post
node_at_once κs a x y s t p q = same_record (p.0 ∙ sym q.0) (p.1 ∙ sym q.1) (p.2 ∙ sym q.2) (p.4 ∙ sym q.4)

pub default_symbol_once : Once 1 DefaultSymbolKinds.ps DefaultSymbolKinds.r DefaultSymbolReads.Post
default_symbol_once κs a x y s t p q = p.0 ∙ sym q.0

pub default_value_once : Once 1 DefaultValueKinds.ps DefaultValueKinds.r DefaultValueReads.Post
default_value_once κs a x y s t p q = p.0 ∙ sym q.0

pub default_condition_once : Once 1 DefaultConditionKinds.ps DefaultConditionKinds.r DefaultConditionReads.Post
default_condition_once κs a x y s t p q = p.0 ∙ sym q.0

pub selector_of_once : Once 1 SelectorOfKinds.ps SelectorOfKinds.r SelectorOfReads.Post
selector_of_once κs a x y s t p q = p.0 ∙ sym q.0

pub target_of_once : Once 1 TargetOfKinds.ps TargetOfKinds.r TargetOfReads.Post
target_of_once κs a x y s t p q = p.0 ∙ sym q.0

pub condition_of_once : Once 1 ConditionOfKinds.ps ConditionOfKinds.r ConditionOfReads.Post
condition_of_once κs a x y s t p q = p.0 ∙ sym q.0

pub range_symbol_once : Once 1 RangeSymbolKinds.ps RangeSymbolKinds.r RangeSymbolReads.Post
range_symbol_once κs a x y s t p q = p.0 ∙ sym q.0

pub low_of_once : Once 1 LowOfKinds.ps LowOfKinds.r LowOfReads.Post
low_of_once κs a x y s t p q = p.0 ∙ sym q.0

pub high_of_once : Once 1 HighOfKinds.ps HighOfKinds.r HighOfReads.Post
high_of_once κs a x y s t p q = p.0 ∙ sym q.0

pub range_condition_once : Once 1 RangeConditionKinds.ps RangeConditionKinds.r RangeConditionReads.Post
range_condition_once κs a x y s t p q = p.0 ∙ sym q.0

pub choice_kind_once : Once 1 ChoiceKindKinds.ps ChoiceKindKinds.r ChoiceKindReads.Post
choice_kind_once κs a x y s t p q = p ∙ sym q

pub mandatory_of_once : Once 1 MandatoryOfKinds.ps MandatoryOfKinds.r MandatoryOfReads.Post
mandatory_of_once κs a x y s t p q = p ∙ sym q

pub choice_prompt_once : Once 1 ChoicePromptKinds.ps ChoicePromptKinds.r ChoicePromptReads.Post
choice_prompt_once κs a x y s t p q = p.0 ∙ sym q.0

pub first_member_once : Once 1 FirstMemberKinds.ps FirstMemberKinds.r FirstMemberReads.Post
first_member_once κs a x y s t p q = p.0 ∙ sym q.0

pub member_count_once : Once 1 MemberCountKinds.ps MemberCountKinds.r MemberCountReads.Post
member_count_once κs a x y s t p q = p.0 ∙ sym q.0

pub member_symbol_once : Once 1 MemberSymbolKinds.ps MemberSymbolKinds.r MemberSymbolReads.Post
member_symbol_once κs a x y s t p q = p.0 ∙ sym q.0

pub width_once : Once 0 WidthKinds.ps WidthKinds.r WidthReads.Post
width_once κs a x y s t p q = p.0 ∙ sym q.0

pub is_three_once : Once 1 IsThreeKinds.ps IsThreeKinds.r IsThreeReads.Post
is_three_once κs a x y s t p q = p ∙ sym q

pub is_leaf_once : Once 1 IsLeafKinds.ps IsLeafKinds.r IsLeafReads.Post
is_leaf_once κs a x y s t p q = p ∙ sym q

pub name_start_once : Once 1 NameStartKinds.ps NameStartKinds.r NameStartReads.Post
name_start_once κs a x y s t p q = p.0 ∙ sym q.0

pub target_from_once : Once 1 TargetFromKinds.ps TargetFromKinds.r TargetFromReads.Post
target_from_once κs a x y s t p q = p.0 ∙ sym q.0

pub default_symbol_from_once : Once 1 DefaultSymbolFromKinds.ps DefaultSymbolFromKinds.r DefaultSymbolFromReads.Post
default_symbol_from_once κs a x y s t p q = p.0 ∙ sym q.0

pub member_symbol_from_once : Once 1 MemberSymbolFromKinds.ps MemberSymbolFromKinds.r MemberSymbolFromReads.Post
member_symbol_from_once κs a x y s t p q = p.0 ∙ sym q.0

pub name_from_once : OnceIn 1 NameFromKinds.ps NameFromKinds.r NameFromReads.Post (λ κs x s. x.now)
name_from_once κs a x y s t p q = p.0 ∙ sym q.0

pub spelled_name_once : OnceIn 1 SpelledNameKinds.ps SpelledNameKinds.r SpelledNameReads.Post (λ κs x s. x.now)
spelled_name_once κs a x y s t p q = p ∙ sym q

pub op_try_from_once : Once 0 OpTryFromKinds.ps OpTryFromKinds.r OpTryFromReads.Post
op_try_from_once κs a x y s t p q = same_op _ x y p q

pub symbol_type_try_from_once : Once 0 SymbolTypeTryFromKinds.ps SymbolTypeTryFromKinds.r SymbolTypeTryFromReads.Post
symbol_type_try_from_once κs a x y s t p q = same_type _ x y p q

pub node_op_once : Once 1 NodeOpKinds.ps NodeOpKinds.r NodeOpReads.Post
node_op_once κs a x y s t p q = same_node_op _ x y p.0 p.1 q.0 q.1

pub symbol_type_once : Once 1 SymbolTypeKinds.ps SymbolTypeKinds.r SymbolTypeReads.Post
symbol_type_once κs a x y s t p q = same_symbol_type _ x y p.0 p.1 q.0 q.1
