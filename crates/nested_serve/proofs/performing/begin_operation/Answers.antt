use Rattle.std.proofs.Common.{string_bytes}
use Rattle.object_operations.specs.declared.operation.Operation.TheVariants as operation
use Rattle.language_rules.specs.Perform.{perform}
use Rattle.nested_serve.proofs.Steps.{at_operation, lent, lent_printing}
use Rattle.nested_serve.proofs.performing.begin_operation.Goals as goal

pub returns-in-Call-clause-means : goal.returns-in-Call-clause-means
returns-in-Call-clause-means c =
    at_operation c.call.result c.args.machine.now.stack.items c.call.new.stack.items c.args.machine.now.store.cells c.call.new.store.cells c.args.machine.now.texts.items c.args.machine.now.handled c.args.machine.now.handled c.args.machine.now.classes c.args.machine.now.printing c.args.machine.now.printing (string_bytes c.args.machine.now.printed) (string_bytes c.args.machine.now.printed) c.args.operation (operation.Call c.in-Call.callee c.in-Call.arguments) c.in-Call.is
    (lent c.call.result c.args.machine.now.stack.items c.call.new.stack.items c.args.machine.now.store.cells c.call.new.store.cells c.args.machine.now.texts.items c.deref.result.now c.args.machine.now.handled c.args.machine.now.classes c.args.machine.now.printing (string_bytes c.args.machine.now.printed) (perform (operation.Call c.in-Call.callee c.in-Call.arguments))
    c.deref.ensures.value c.call.ensures.means)

pub returns-in_default : goal.returns-in_default
returns-in_default c = record {
  means = lent c.perform.result c.args.machine.now.stack.items c.perform.new.stack.items c.args.machine.now.store.cells c.perform.new.store.cells c.args.machine.now.texts.items c.deref-in_default.result.now c.args.machine.now.handled c.args.machine.now.classes c.args.machine.now.printing (string_bytes c.args.machine.now.printed) (perform c.args.operation)
      c.deref-in_default.ensures.value c.perform.ensures.means;
  light = c.perform.ensures.light;
}

pub returns-in-Str-clause-means : goal.returns-in-Str-clause-means
returns-in-Str-clause-means c =
    at_operation c.str_of.result c.args.machine.now.stack.items c.str_of.new.stack.items c.args.machine.now.store.cells c.args.machine.now.store.cells c.args.machine.now.texts.items c.args.machine.now.handled c.args.machine.now.handled c.args.machine.now.classes c.args.machine.now.printing c.str_of.new.printing (string_bytes c.args.machine.now.printed) (string_bytes c.args.machine.now.printed) c.args.operation (operation.Str c.in-Str.receiver) c.in-Str.is
    (lent_printing c.str_of.result c.args.machine.now.stack.items c.str_of.new.stack.items c.args.machine.now.store.cells c.args.machine.now.texts.items c.args.machine.now.handled c.args.machine.now.classes c.args.machine.now.printing c.str_of.new.printing (string_bytes c.args.machine.now.printed) (perform (operation.Str c.in-Str.receiver)) c.str_of.ensures.means)

pub returns-in-Repr-clause-means : goal.returns-in-Repr-clause-means
returns-in-Repr-clause-means c =
    at_operation c.repr_of.result c.args.machine.now.stack.items c.repr_of.new.stack.items c.args.machine.now.store.cells c.args.machine.now.store.cells c.args.machine.now.texts.items c.args.machine.now.handled c.args.machine.now.handled c.args.machine.now.classes c.args.machine.now.printing c.repr_of.new.printing (string_bytes c.args.machine.now.printed) (string_bytes c.args.machine.now.printed) c.args.operation (operation.Repr c.in-Repr.receiver) c.in-Repr.is
    (lent_printing c.repr_of.result c.args.machine.now.stack.items c.repr_of.new.stack.items c.args.machine.now.store.cells c.args.machine.now.texts.items c.args.machine.now.handled c.args.machine.now.classes c.args.machine.now.printing c.repr_of.new.printing (string_bytes c.args.machine.now.printed) (perform (operation.Repr c.in-Repr.receiver)) c.repr_of.ensures.means)
