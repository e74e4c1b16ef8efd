use Rattle.std.proofs.Common.{◌∙◌, ap, ℕ, [], subst}
use Rattle.std.specs.Prelude.{is_some}
use Rattle.iom_regs.specs.Views.{mode_of}
use Rattle.iom_ddt.specs.Directory.{levels_of}
use Rattle.iom_ddt.specs.Formats.{context_format}
use Rattle.iom_ddt.specs.declared.formats.ContextFormat.{ContextFormat}
use Rattle.iom_core.specs.Access.{machine_of}
use Rattle.iom_every.specs.declared.entry.Entry.{Entry}
use Rattle.iom_every.specs.Trees.{entered_tree}
use Rattle.iom_every.specs.Uses.{ForDevice, device_use}
use Rattle.iom_ways.specs.Asked.{Collects}
use Rattle.iom_ways.proofs.Looked.{looked, of_some}
use Rattle.iom_ways.proofs.ways.put_devices.Goals as goal

pub returns : goal.returns
returns g c =
    let asking = c.args.asking.now in
    let found = of_some _ _ _ c.in-Some.is c.in_ok-used.ensures.followed in
    looked c.put_each.result asking.asks asking.held.now c.in-Some.used.items c.deref.result.now ForDevice (device_use (context_format asking.registers.now.features) (levels_of (mode_of asking.registers.now)) asking.request.now.did)
    (entered_tree (machine_of (g.M.Region.memory asking.ram.now) asking.registers.now [] []) asking.request.now)
    c.args.out.now c.put_entered.new.out c.followed.new.out c.put_each.new.out (
      found.0,
      found.1,
      subst (λ (format : ContextFormat). Collects asking.held.now
          (λ (entry : Entry). is_some (device_use format (levels_of (mode_of asking.registers.now)) asking.request.now.did ForDevice entry)) [] c.in-Some.used.items) (c.of-format.ensures ∙ ap context_format c.features.ensures)
          (subst (λ (depth : ℕ). Collects asking.held.now (λ (entry : Entry). is_some (device_use c.of-format.result depth asking.request.now.did ForDevice entry)) [] c.in-Some.used.items) c.depth_of-depth.ensures.levels found.2),
    )
    c.deref.ensures.value c.in_ok-put_entered.ensures c.put_each.ensures
