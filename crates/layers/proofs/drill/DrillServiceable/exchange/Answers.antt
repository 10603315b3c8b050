use Rattle.std.proofs.Common.{Option, sym, ap, ◌∙◌, subst}
use Rattle.shelf.specs.declared.refusal.Refusal.{Refusal}
use Rattle.shelf.specs.Calls.{refuses_exchange, Exchanged}
use Rattle.shelf.proofs.Settling.{tested_exchange, done, when_done}
use Rattle.layers.specs.declared.schedule.Schedule.{Schedule}
use Rattle.layers.specs.Schedules.{stopped}
use Rattle.layers.specs.Drills.{Spends}
use Rattle.layers.proofs.Halting.{stopped_other, stopped_none, stop_shape, stop_exchanged}
use Rattle.layers.proofs.drill.DrillServiceable.exchange.Goals as goal

pub returns-clause-promised : goal.returns-clause-promised
returns-clause-promised g c =
    let d = c.args.self.now in
    let s = g.S.Shelf.table d.shelf in
    let s' = g.S.Shelf.table c.exchange.new.self in
    let bay = c.args.bay in
    let f = stopped d.schedule in
    let f' = stopped c.spend.new.self in
    let none = tested_exchange s _ _ c.shape.ensures c.from.ensures bay c.in_ok-check_bay.ensures in
    done _ _ _ _ _ _ _ none (stop_shape f f' s s' c.exchange.ensures.0) (λ h.
    let k = when_done s s' (g.S.Shelf.sound d.shelf) (g.S.Shelf.sound c.exchange.new.self) (refuses_exchange bay s) (Exchanged bay) c.exchange.result none c.exchange.ensures h in
    (k.0, stop_exchanged f f' s s' bay c.exchange.result (λ b ne. ap (λ (x : Schedule). stopped x b) c.spend.ensures ∙ stopped_other d.schedule b bay ne) k.1))

pub returns-clause-spends : goal.returns-clause-spends
returns-clause-spends g c =
    let d = c.args.self.now in
    let bay = c.args.bay in
    let none = tested_exchange (g.S.Shelf.table d.shelf) _ _ c.shape.ensures c.from.ensures bay c.in_ok-check_bay.ensures in
    subst (λ (o : Option Refusal). Spends o bay d (record { shelf = c.exchange.new.self; schedule = c.spend.new.self })) (sym none)
    (c.spend.ensures, ap (λ (x : Schedule). stopped x bay) c.spend.ensures ∙ stopped_none d.schedule bay)
