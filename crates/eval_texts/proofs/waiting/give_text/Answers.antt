use Rattle.std.proofs.Common.{ap}
use Rattle.eval_frames.specs.ListFrames.{through_text}
use Rattle.eval_frames.specs.declared.list_frames.TextFrame.{TextFrame}
use Rattle.eval_frames.specs.declared.list_frames.TextFrame.TheVariants as text_frame
use Rattle.language_rules.specs.Printing.{dict_text_rule, list_text_rule}
use Rattle.eval_texts.proofs.StackLaws.{in_every_state, while_printing}
use Rattle.eval_texts.proofs.waiting.give_text.Goals as goal

pub returns-in-List-clause-means : goal.returns-in-List-clause-means
returns-in-List-clause-means c =
    while_printing (list_text_rule c.in-List.list c.in-List.position c.in-List.made c.args.completion) (through_text c.args.frame c.args.completion) c.args.store.now.cells c.args.printing.now c.give_list.result c.give_list.new.stack.items c.args.stack.now.items
    (ap (λ (f : TextFrame). through_text f c.args.completion) c.in-List.is) c.give_list.ensures.means

pub returns-in-Dict-clause-means : goal.returns-in-Dict-clause-means
returns-in-Dict-clause-means c =
    while_printing (dict_text_rule c.in-Dict.dict c.in-Dict.shape c.in-Dict.position c.in-Dict.made c.args.completion) (through_text c.args.frame c.args.completion) c.args.store.now.cells c.args.printing.now c.give_dict.result c.give_dict.new.stack.items c.args.stack.now.items
    (ap (λ (f : TextFrame). through_text f c.args.completion) c.in-Dict.is) c.give_dict.ensures.means

pub returns-in-Tuple-clause-means : goal.returns-in-Tuple-clause-means
returns-in-Tuple-clause-means c =
    let t = through_text (text_frame.Tuple c.in-Tuple.levels) c.args.completion in
    while_printing t (through_text c.args.frame c.args.completion) c.args.store.now.cells c.args.printing.now c.give_tuple_text.result c.give_tuple_text.new.stack.items c.args.stack.now.items
    (ap (λ (f : TextFrame). through_text f c.args.completion) c.in-Tuple.is) (in_every_state t c.args.store.now.cells c.give_tuple_text.result c.give_tuple_text.new.stack.items c.args.stack.now.items c.give_tuple_text.ensures.means)
