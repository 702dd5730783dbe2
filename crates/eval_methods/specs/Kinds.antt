-- What a method is to a list, and what it is to a dict.
use Rattle.std.specs.Prelude.{◌≡◌, ℕ, List}
use Rattle.rp_base.specs.declared.exceptions.Beyond.TheVariants as beyond
use Rattle.rp_base.specs.declared.value.Value.{Value}
use Rattle.object_operations.specs.declared.method.BuiltinMethod.{BuiltinMethod}
use Rattle.object_operations.specs.declared.method.BuiltinMethod.TheVariants as method
use Rattle.py_dicts.specs.DictCells as dicts
use Rattle.py_lists.specs.Lists as lists
use Rattle.py_store.specs.EntryLists.{EntryList}
use Rattle.side_trees.specs.Trees.{Stop}
use Rattle.language_rules.specs.DictMethods.{dict_method}
use Rattle.language_rules.specs.Going.{RuleTree}
use Rattle.language_rules.specs.ListMethods.{list_method}
use Rattle.eval_methods.specs.declared.dicts.DictMethod.{DictMethod}
use Rattle.eval_methods.specs.declared.dicts.DictMethod.TheVariants as dict_kind
use Rattle.eval_methods.specs.declared.lists.ListMethod.{ListMethod}
use Rattle.eval_methods.specs.declared.lists.ListMethod.TheVariants as list_kind

-- arguments of a wrong number, or no method of this kind
abbrev pub wrong_arguments : RuleTree
wrong_arguments = Stop beyond.Arguments

abbrev pub IsListMethod : BuiltinMethod → ListMethod → Type 0
IsListMethod m list_kind.Direct = lists.IsDirect m
IsListMethod m list_kind.Extend = m ≡ method.Extend
IsListMethod m list_kind.Index = m ≡ method.Index
IsListMethod m list_kind.Remove = m ≡ method.Remove
IsListMethod m list_kind.Other = (n : ℕ) (items arguments : List Value) → list_method n items m arguments ≡ wrong_arguments

abbrev pub IsDictMethod : BuiltinMethod → DictMethod → Type 0
IsDictMethod m dict_kind.Direct = dicts.IsDirect m
IsDictMethod m (dict_kind.View which) = m ≡ dicts.view_method which
IsDictMethod m dict_kind.Other = (n : ℕ) (entries : EntryList) (shape : ℕ) (arguments : List Value) → dict_method n entries shape m arguments ≡ wrong_arguments
