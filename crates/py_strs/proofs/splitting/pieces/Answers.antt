use Rattle.std.proofs.Common.{rules, Some, None}
use Rattle.py_strs.proofs.Places.{found, nowhere, searched, cut_at}
use Rattle.py_strs.proofs.Cuts.{step_cut, end_cut}
use Rattle.py_strs.proofs.splitting.pieces.Goals as goal

pub split_at-requires : goal.split_at-requires
split_at-requires c = (found c.cuts.rest.now c.args.sep.now c.in-Some.at c.cuts.invariant.0 c.utf8.sep (searched c.cuts.rest.now c.args.sep.now c.as_bytes.result.now c.as_bytes-in-cuts.result.now c.find.result (Some c.in-Some.at) c.as_bytes.ensures.value c.as_bytes-in-cuts.ensures.value c.in-Some.is c.find.ensures)).cut

pub range_from-rest-requires : goal.range_from-rest-requires
range_from-rest-requires c some = (cut_at c.cuts.rest.now c.args.sep.now c.split_at.result.0.now c.split_at.result.1.now c.in-Some.at c.cuts.invariant.0 c.utf8.sep (searched c.cuts.rest.now c.args.sep.now c.as_bytes.result.now c.as_bytes-in-cuts.result.now c.find.result (Some c.in-Some.at) c.as_bytes.ensures.value c.as_bytes-in-cuts.ensures.value c.in-Some.is c.find.ensures) c.split_at.ensures.front c.split_at.ensures.back).past

pub cuts-preserved : goal.cuts-preserved
cuts-preserved c =
    let cut = cut_at c.cuts.rest.now c.args.sep.now c.split_at.result.0.now c.split_at.result.1.now c.in-Some.at c.cuts.invariant.0 c.utf8.sep (searched c.cuts.rest.now c.args.sep.now c.as_bytes.result.now c.as_bytes-in-cuts.result.now c.find.result (Some c.in-Some.at) c.as_bytes.ensures.value c.as_bytes-in-cuts.ensures.value c.in-Some.is c.find.ensures) c.split_at.ensures.front c.split_at.ensures.back in
    (c.range_from-rest.utf8, step_cut c.args.sep.now c.args.s.now c.cuts.rest.now c.split_at.result.0.now c.split_at.result.1.now c.range_from-rest.result.now c.cuts.pieces.items c.push.new.self.items c.in_ok-from_str.field-0 cut c.range_from-rest.ensures.value c.in_ok-from_str.ensures.ok c.in_ok-push.ensures.items c.cuts.invariant.1)

pub returns : goal.returns
returns c =
    let none = nowhere c.cuts.rest.now c.args.sep.now c.cuts.invariant.0 c.utf8.sep (searched c.cuts.rest.now c.args.sep.now c.as_bytes.result.now c.as_bytes-in-cuts.result.now c.find.result None c.as_bytes.ensures.value c.as_bytes-in-cuts.ensures.value (search rules) c.find.ensures) in
    end_cut c.args.sep.now c.args.s.now c.cuts.rest.now c.cuts.pieces.items c.push-2.new.self.items c.in_ok-from_str-2.field-0 none c.in_ok-from_str-2.ensures.ok c.in_ok-push-2.ensures.items c.cuts.invariant.1
