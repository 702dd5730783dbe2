-- Printed names, and the numbers of handlers.
use Rattle.std.specs.Prelude.{ℕ, List, codes}
use Rattle.rp_base.specs.declared.exceptions.ExcKind.{ExcKind}
use Rattle.rp_base.specs.declared.exceptions.ExcKind.TheVariants as exception
use Rattle.rp_base.specs.declared.exceptions.Beyond.{Beyond}
use Rattle.rp_base.specs.declared.exceptions.Beyond.TheVariants as beyond
use Rattle.rp_base.specs.declared.rules.Rule.{Rule}
use Rattle.rp_base.specs.declared.rules.Rule.TheVariants as rule
use Rattle.rp_base.specs.declared.handlers.Handler.{Handler}
use Rattle.rp_base.specs.declared.handlers.Handler.TheVariants as handler

-- the class's name in Python
abbrev pub exception_name : ExcKind → List ℕ
exception_name exception.Exception = codes "Exception"
exception_name exception.ArithmeticError = codes "ArithmeticError"
exception_name exception.ZeroDivisionError = codes "ZeroDivisionError"
exception_name exception.OverflowError = codes "OverflowError"
exception_name exception.AssertionError = codes "AssertionError"
exception_name exception.AttributeError = codes "AttributeError"
exception_name exception.EOFError = codes "EOFError"
exception_name exception.ImportError = codes "ImportError"
exception_name exception.ModuleNotFoundError = codes "ModuleNotFoundError"
exception_name exception.LookupError = codes "LookupError"
exception_name exception.IndexError = codes "IndexError"
exception_name exception.KeyError = codes "KeyError"
exception_name exception.NameError = codes "NameError"
exception_name exception.UnboundLocalError = codes "UnboundLocalError"
exception_name exception.RuntimeError = codes "RuntimeError"
exception_name exception.NotImplementedError = codes "NotImplementedError"
exception_name exception.StopIteration = codes "StopIteration"
exception_name exception.TypeError = codes "TypeError"
exception_name exception.ValueError = codes "ValueError"

-- the kind's name in a report
abbrev pub beyond_name : Beyond → List ℕ
beyond_name beyond.Int = codes "Int"
beyond_name beyond.Float = codes "Float"
beyond_name beyond.Size = codes "Size"
beyond_name beyond.Depth = codes "Depth"
beyond_name beyond.Output = codes "Output"
beyond_name beyond.Text = codes "Text"
beyond_name beyond.Name = codes "Name"
beyond_name beyond.Namespace = codes "Namespace"
beyond_name beyond.Key = codes "Key"
beyond_name beyond.Payload = codes "Payload"
beyond_name beyond.Address = codes "Address"
beyond_name beyond.CyclicRepr = codes "CyclicRepr"
beyond_name beyond.Compare = codes "Compare"
beyond_name beyond.Order = codes "Order"
beyond_name beyond.Attribute = codes "Attribute"
beyond_name beyond.Arguments = codes "Arguments"
beyond_name beyond.Truth = codes "Truth"
beyond_name beyond.Drain = codes "Drain"
beyond_name beyond.Changed = codes "Changed"
beyond_name beyond.IntText = codes "IntText"
beyond_name beyond.Operator = codes "Operator"
beyond_name beyond.Base = codes "Base"
beyond_name beyond.NotYet = codes "NotYet"

-- the rule's code in a refusal
abbrev pub rule_name : Rule → List ℕ
rule_name rule.L1 = codes "L1"
rule_name rule.L2 = codes "L2"
rule_name rule.L3 = codes "L3"
rule_name rule.L4 = codes "L4"
rule_name rule.L5 = codes "L5"
rule_name rule.L6 = codes "L6"
rule_name rule.P1 = codes "P1"
rule_name rule.P2 = codes "P2"
rule_name rule.P3 = codes "P3"
rule_name rule.P4 = codes "P4"
rule_name rule.S1 = codes "S1"
rule_name rule.S2 = codes "S2"
rule_name rule.S3 = codes "S3"
rule_name rule.S4 = codes "S4"
rule_name rule.S5 = codes "S5"
rule_name rule.S6 = codes "S6"
rule_name rule.S7 = codes "S7"
rule_name rule.S8 = codes "S8"
rule_name rule.S9 = codes "S9"
rule_name rule.S10 = codes "S10"
rule_name rule.S11 = codes "S11"
rule_name rule.S12 = codes "S12"
rule_name rule.NotYet = codes "NotYet"

-- the handler's name in a printed message
abbrev pub handler_name : Handler → List ℕ
handler_name handler.Ping = codes "PING"
handler_name handler.Close = codes "CLOSE"
handler_name handler.GetRoot = codes "GETROOT"
handler_name handler.GetAttr = codes "GETATTR"
handler_name handler.DelAttr = codes "DELATTR"
handler_name handler.SetAttr = codes "SETATTR"
handler_name handler.Call = codes "CALL"
handler_name handler.CallAttr = codes "CALLATTR"
handler_name handler.Repr = codes "REPR"
handler_name handler.Str = codes "STR"
handler_name handler.Cmp = codes "CMP"
handler_name handler.Del = codes "DEL"
handler_name handler.Inspect = codes "INSPECT"

-- the handler's number in a message
abbrev pub handler_number : Handler → ℕ
handler_number handler.Ping = 1
handler_number handler.Close = 2
handler_number handler.GetRoot = 3
handler_number handler.GetAttr = 4
handler_number handler.DelAttr = 5
handler_number handler.SetAttr = 6
handler_number handler.Call = 7
handler_number handler.CallAttr = 8
handler_number handler.Repr = 9
handler_number handler.Str = 10
handler_number handler.Cmp = 11
handler_number handler.Del = 15
handler_number handler.Inspect = 16
