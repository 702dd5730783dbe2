-- What each act of the grammar builds, and which guards hold.
use Rattle.std.specs.Prelude.{ℕ, Bool, true, false, List, length, nat_lt, Option, None, Some, option_map}
use Rattle.py_ast.specs.declared.expression.Expression.TheVariants as expression
use Rattle.py_ast.specs.declared.statement.Statement.TheVariants as statement
use Rattle.py_grammar.specs.declared.act.Act.{Act}
use Rattle.py_grammar.specs.declared.act.Act.TheVariants as a
use Rattle.py_grammar.specs.declared.symbol.Guard.{Guard}
use Rattle.py_grammar.specs.declared.symbol.Guard.TheVariants as guard
use Rattle.py_grammar.specs.declared.symbol.Limits.{Limits}
use Rattle.py_grammar.specs.Building.{Builder}
use Rattle.py_parser.specs.declared.builder.Building.{Building}
use Rattle.py_parser.specs.declared.parts.Form.{Form}
use Rattle.py_parser.specs.declared.parts.Form.TheVariants as form
use Rattle.py_parser.specs.Building.{taken_in}
use Rattle.py_parser.specs.BuildingExpressions.{attribute, binary, byte_string, call, compare, conditional, constant, empty_tuple, int, inverse, item, listed, name_tree, text, tuple, unary}
use Rattle.py_parser.specs.BuildingFunctions.{begin_def, begin_lambda, end_def, end_lambda}
use Rattle.py_parser.specs.BuildingLists.{add, add_link, add_name, begin_links, begin_list, begin_names, begin_with, mark, name, no_name, no_suite, suite, within}
use Rattle.py_parser.specs.BuildingSigns.{binary_sign, comparison_sign, negate, unary_sign}
use Rattle.py_parser.specs.BuildingStatements.{alone, attempt, bare, branch, declare, give_back, handler, loop_while, make_class, other_branch, raise_call, raise_name, word_alone}
use Rattle.py_parser.specs.BuildingTargets.{assign, augment, delete, loop_over}
use Rattle.py_parser.specs.BuildingParts.{front}
use Rattle.rp_base.specs.declared.plain.Plain.TheVariants as plain

unfoldable pub acted : Act → Building → Building
acted a.Nothing b = b
acted a.Mark b = mark b
acted a.Begin b = begin_list b
acted a.BeginWith b = begin_with b.trees b
acted a.Add b = add b.trees b.lists b
acted a.BeginNames b = begin_names b
acted a.AddName b = add_name b.name_lists b
acted a.Name b = name b
acted a.NoName b = no_name b
acted a.BeginLinks b = begin_links b
acted a.AddLink b = add_link b.trees b.comparisons b.links b
acted a.BinarySign b = binary_sign b
acted a.UnarySign b = unary_sign b
acted a.ComparisonSign b = comparison_sign b
acted a.Negate b = negate b.comparisons b
acted a.MakeSuite b = suite b.lists b
acted a.NoSuite b = no_suite b
acted a.MakeHandler b = handler b.name_lists b.names b.suites b.marks b
acted a.MakeIf b = branch b.trees b.suites b.marks b
acted a.MakeElif b = other_branch b.trees b.suites b.marks b
acted a.MakeWhile b = loop_while b.trees b.suites b.marks b
acted a.MakeFor b = loop_over b.trees b.suites b.marks b
acted a.MakeTry b = attempt b.lists b.suites b.marks b
acted a.BeginDef b = begin_def b.name_lists b.names b
acted a.MakeDef b = end_def b.function b.suites b.marks b
acted a.MakeClass b = make_class b.names b.suites b.marks b
acted a.MakePass b = word_alone statement.Pass b
acted a.MakeBreak b = word_alone statement.Break b
acted a.MakeContinue b = word_alone statement.Continue b
acted a.MakeReturn b = give_back b.trees b.marks b
acted a.MakeReturnNone b = bare (statement.Return None) b.marks b
acted a.MakeReraise b = bare statement.RaiseAgain b.marks b
acted a.MakeRaiseName b = raise_name b.names b.marks b
acted a.MakeRaise b = raise_call b.lists b.names b.marks b
acted a.MakeGlobal b = declare statement.Global b.name_lists b.marks b
acted a.MakeNonlocal b = declare statement.Nonlocal b.name_lists b.marks b
acted a.MakeDel b = delete b.trees b.marks b
acted a.MakeExpression b = alone b.trees b
acted a.MakeAssign b = assign b.trees b
acted a.MakeAugmented b = augment b.trees b.signs b
acted a.MakeTuple b = tuple b.lists b
acted a.MakeEmptyTuple b = empty_tuple b
acted a.MakeWithin b = within b.trees b.marks b
acted a.MakeName b = name_tree b
acted a.MakeNone b = constant plain.None b
acted a.MakeTrue b = constant (plain.Bool true) b
acted a.MakeFalse b = constant (plain.Bool false) b
acted a.MakeEllipsis b = constant plain.Ellipsis b
acted a.MakeInt b = int b
acted a.MakeText b = text b
acted a.MakeBytes b = byte_string b
acted a.MakeAttribute b = attribute b.trees b
acted a.MakeItem b = item b.trees b
acted a.MakeCall b = call b.trees b.lists b
acted a.BeginLambda b = begin_lambda b.name_lists b
acted a.MakeLambda b = end_lambda b.function b.trees b.marks b
acted a.MakeConditional b = conditional b.trees b
acted a.MakeOr b = listed expression.Or b.lists b
acted a.MakeAnd b = listed expression.And b.lists b
acted a.MakeNot b = inverse b.trees b.marks b
acted a.MakeCompare b = compare b.trees b.links b
acted a.MakeBinary b = binary b.trees b.signs b
acted a.MakeUnary b = unary b.trees b.unary_signs b.marks b
acted a.MakeList b = listed expression.List b.lists b
acted a.MakeDict b = listed expression.Dict b.lists b

abbrev pub shorter : {A : Type 0} → ℕ → Option (List A) → Bool
shorter most (Some xs) = nat_lt (length xs) most
shorter most None = false

-- a name, an attribute or an item
abbrev pub is_place : Option Form → Bool
is_place (Some form.Place) = true
is_place _ = false

-- these with commas, too
abbrev pub is_target : Option Form → Bool
is_target (Some form.Place) = true
is_target (Some form.Places) = true
is_target _ = false

-- of the tree that was made last
abbrev pub form_on_top : Building → Option Form
form_on_top b = option_map (λ tree. tree.form) (front b.trees)

unfoldable pub holds : Limits → Guard → Building → Bool
holds limits guard.FewerArguments b = shorter limits.arguments (option_map (λ l. l.numbers) (front b.lists))
holds limits guard.FewerParameters b = shorter limits.arguments (front b.name_lists)
holds limits guard.Targets b = is_target (form_on_top b)
holds limits guard.Place b = is_place (form_on_top b)

abbrev pub builder : Builder Building
builder = record { take_in = λ u b. taken_in u.text u.line b; act = acted; holds = holds }
