use Rattle.std.proofs.Common.{◌≡◌, ◌∙◌, sym, ap}
use Rattle.iom_core.specs.State.{state_on}
use Rattle.iom_core.specs.Table.{Outcome}
use Rattle.iom_core.proofs.Rows.{device_led, others_led, read_led, translate_led, unled, write_led}
use Rattle.iom_core.proofs.board.Board.act_led.Goals as goal

told : (given made : Outcome) → made ≡ given → given.answer ≡ made.answer
told given made is = ap (λ (o : Outcome). o.answer) (sym is)

left : (given made : Outcome) → made ≡ given → given.state ≡ made.state
left given made is = ap (λ (o : Outcome). o.state) (sym is)

pub returns-in_default-clause-answer : goal.returns-in_default-clause-answer
returns-in_default-clause-answer g c = c.step_unled.ensures.answer ∙ told _ _ (unled (state_on (g.M.Region.memory c.args.ram.now) c.args.self.now) c.args.step.now c.args.goes c.in_default.is)

pub returns-in_default-clause-state : goal.returns-in_default-clause-state
returns-in_default-clause-state g c = c.step_unled.ensures.state ∙ left _ _ (unled (state_on (g.M.Region.memory c.args.ram.now) c.args.self.now) c.args.step.now c.args.goes c.in_default.is)

pub returns-in-DmaRead-clause-answer : goal.returns-in-DmaRead-clause-answer
returns-in-DmaRead-clause-answer g c = c.read_led.ensures.answer ∙ told _ _ (read_led (state_on (g.M.Region.memory c.args.ram.now) c.args.self.now) c.args.step.now c.args.goes c.in-DmaRead.did c.in-DmaRead.iova c.in-DmaRead.len c.in-Some.goes c.in-DmaRead.is c.in-Some.is)

pub returns-in-DmaRead-clause-state : goal.returns-in-DmaRead-clause-state
returns-in-DmaRead-clause-state g c = c.read_led.ensures.state ∙ left _ _ (read_led (state_on (g.M.Region.memory c.args.ram.now) c.args.self.now) c.args.step.now c.args.goes c.in-DmaRead.did c.in-DmaRead.iova c.in-DmaRead.len c.in-Some.goes c.in-DmaRead.is c.in-Some.is)

pub returns-in-DmaWrite-clause-answer : goal.returns-in-DmaWrite-clause-answer
returns-in-DmaWrite-clause-answer g c =
    let is = write_led (state_on (g.M.Region.memory c.args.ram.now) c.args.self.now) c.args.step.now c.args.goes c.in-DmaWrite.did c.in-DmaWrite.iova c.in-DmaWrite.bytes c.in-Some.goes c.in-DmaWrite.is c.in-Some.is in
    rw (← c.as_slice.ensures.value) c.write_led.ensures.answer ∙ told _ _ is

pub returns-in-DmaWrite-clause-state : goal.returns-in-DmaWrite-clause-state
returns-in-DmaWrite-clause-state g c =
    let is = write_led (state_on (g.M.Region.memory c.args.ram.now) c.args.self.now) c.args.step.now c.args.goes c.in-DmaWrite.did c.in-DmaWrite.iova c.in-DmaWrite.bytes c.in-Some.goes c.in-DmaWrite.is c.in-Some.is in
    rw (← c.as_slice.ensures.value) c.write_led.ensures.state ∙ left _ _ is

pub returns-in-Translate-clause-answer : goal.returns-in-Translate-clause-answer
returns-in-Translate-clause-answer g c = c.translate_led.ensures.answer ∙ told _ _ (translate_led (state_on (g.M.Region.memory c.args.ram.now) c.args.self.now) c.args.step.now c.args.goes c.in-Translate.did c.in-Translate.iova c.in-Translate.kind c.in-Some.goes c.in-Translate.is c.in-Some.is)

pub returns-in-Translate-clause-state : goal.returns-in-Translate-clause-state
returns-in-Translate-clause-state g c = c.translate_led.ensures.state ∙ left _ _ (translate_led (state_on (g.M.Region.memory c.args.ram.now) c.args.self.now) c.args.step.now c.args.goes c.in-Translate.did c.in-Translate.iova c.in-Translate.kind c.in-Some.goes c.in-Translate.is c.in-Some.is)

pub returns-in-Device-clause-answer : goal.returns-in-Device-clause-answer
returns-in-Device-clause-answer g c = c.device_led.ensures.answer ∙ told _ _ (device_led (state_on (g.M.Region.memory c.args.ram.now) c.args.self.now) c.args.step.now c.args.goes c.in-Device.dev c.in-Some.goes c.in-Device.is c.in-Some.is)

pub returns-in-Device-clause-state : goal.returns-in-Device-clause-state
returns-in-Device-clause-state g c = c.device_led.ensures.state ∙ left _ _ (device_led (state_on (g.M.Region.memory c.args.ram.now) c.args.self.now) c.args.step.now c.args.goes c.in-Device.dev c.in-Some.goes c.in-Device.is c.in-Some.is)

pub returns-in_default-step : goal.returns-in_default-step
returns-in_default-step g c =
    let is = others_led (state_on (g.M.Region.memory c.args.ram.now) c.args.self.now) c.args.step.now c.args.goes c.in_default-step.not-DmaRead c.in_default-step.not-DmaWrite c.in_default-step.not-Translate c.in_default-step.not-Device in
    record {
      answer = c.step_unled-in_default-step.ensures.answer ∙ told _ _ is;
      state = c.step_unled-in_default-step.ensures.state ∙ left _ _ is;
      borrow = c.step_unled-in_default-step.ensures.borrow;
    }
