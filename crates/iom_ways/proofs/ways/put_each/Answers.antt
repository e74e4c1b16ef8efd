use Rattle.std.proofs.Common.{◌∙◌, ap, ℕ, []}
use Rattle.iom_regs.specs.Views.{mode_of}
use Rattle.iom_ddt.specs.Directory.{levels_of}
use Rattle.iom_ddt.specs.Formats.{context_format}
use Rattle.iom_ddt.specs.declared.formats.ContextFormat.{ContextFormat}
use Rattle.iom_core.specs.Access.{machine_of}
use Rattle.iom_every.specs.Trees.{entered_tree}
use Rattle.iom_every.specs.Uses.{ForDevice, device_use}
use Rattle.iom_held.specs.Kept.{entries_in}
use Rattle.iom_held.specs.declared.kept.Kept.{Kept}
use Rattle.iom_ways.specs.Branches.{own_ways}
use Rattle.iom_ways.proofs.Gathering.{ended, has_still, passed, turned}
use Rattle.iom_ways.proofs.ways.put_each.Goals as goal

pub loop-kept-preserved-in_default : goal.loop-kept-preserved-in_default
loop-kept-preserved-in_default g c =
    let fits = λ (kept : Kept). device_use (context_format c.args.asking.now.registers.now.features) (levels_of (mode_of c.args.asking.now.registers.now)) c.args.asking.now.request.now.did ForDevice kept.entry in
    let more = entered_tree (machine_of (g.M.Region.memory c.args.asking.now.ram.now) c.args.asking.now.registers.now [] []) c.args.asking.now.request.now in
    record {
      left = passed fits (own_ways (entries_in c.args.asking.now.held.now) more) c.args.used.now _ _ c.kept-item.result _ _ _ c.loop-kept.invariant.left c.loop-kept-test.true c.kept-item.is
          (c.device_use.ensures.given ∙ ap (λ (depth : ℕ). device_use c.of-format.result depth c.args.asking.now.request.now.did ForDevice c.kept-item.result.entry) c.depth_of-depth.ensures.levels
          ∙ ap (λ (format : ContextFormat). device_use format (levels_of (mode_of c.args.asking.now.registers.now)) c.args.asking.now.request.now.did ForDevice c.kept-item.result.entry) (c.of-format.ensures ∙ ap context_format c.features.ensures)) c.in_default.is;
      has = c.loop-kept.invariant.has;
    }

pub loop-kept-preserved : goal.loop-kept-preserved
loop-kept-preserved g c =
    let fits = λ (kept : Kept). device_use (context_format c.args.asking.now.registers.now.features) (levels_of (mode_of c.args.asking.now.registers.now)) c.args.asking.now.request.now.did ForDevice kept.entry in
    let more = entered_tree (machine_of (g.M.Region.memory c.args.asking.now.ram.now) c.args.asking.now.registers.now [] []) c.args.asking.now.request.now in
    record {
      left = turned fits (own_ways (entries_in c.args.asking.now.held.now) more) c.args.used.now _ _ c.kept-item.result _ _ _ _ _ c.loop-kept.invariant.left c.loop-kept-test.true c.kept-item.is
          (c.device_use.ensures.given ∙ ap (λ (depth : ℕ). device_use c.of-format.result depth c.args.asking.now.request.now.did ForDevice c.kept-item.result.entry) c.depth_of-depth.ensures.levels
          ∙ ap (λ (format : ContextFormat). device_use format (levels_of (mode_of c.args.asking.now.registers.now)) c.args.asking.now.request.now.did ForDevice c.kept-item.result.entry) (c.of-format.ensures ∙ ap context_format c.features.ensures)) c.in-Some.is (c.in_ok-put_other.ensures.ways c.requires.follows);
      has = has_still _ _ _ _ c.loop-kept.invariant.has (c.in_ok-put_other.ensures.ways c.requires.follows);
    }

pub returns : goal.returns
returns g c =
    let fits = λ (kept : Kept). device_use (context_format c.args.asking.now.registers.now.features) (levels_of (mode_of c.args.asking.now.registers.now)) c.args.asking.now.request.now.did ForDevice kept.entry in
    let more = entered_tree (machine_of (g.M.Region.memory c.args.asking.now.ram.now) c.args.asking.now.registers.now [] []) c.args.asking.now.request.now in
    ended fits (own_ways (entries_in c.args.asking.now.held.now) more) c.args.used.now _ _ _ _ c.loop-kept.invariant.left c.loop-kept-test.false
