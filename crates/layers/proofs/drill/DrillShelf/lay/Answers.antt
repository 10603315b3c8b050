use Rattle.std.proofs.Common.{◌≡◌, ℕ, ◌^◌, ◌<◌, not, ◌&&◌, Ok, sym, subst}
use Rattle.shelf.specs.Calls.{refuses_lay, LayAnswer, bit}
use Rattle.shelf.proofs.Settling.{tested_lay, own_bays, done, when_done}
use Rattle.layers.specs.Schedules.{stopped}
use Rattle.layers.proofs.Halting.{stop_shape, stop_laid}
use Rattle.layers.proofs.Counting.{still_stopped}
use Rattle.layers.proofs.drill.DrillShelf.lay.Goals as goal

pub returns-clause-promised : goal.returns-clause-promised
returns-clause-promised g c =
    let d = c.args.self.now in
    let s = g.S.Shelf.table d.shelf in
    let s' = g.S.Shelf.table c.lay.new.self in
    let p = c.args.place in
    let ws = c.args.words.now in
    let f = stopped d.schedule in
    let f' = stopped c.count.new.self in
    let none = tested_lay s _ _ c.shape.ensures c.from-shape.ensures p ws c.in_ok-check_lay.ensures in
    let bays = own_bays s _ _ c.shape.ensures c.from-shape.ensures in
    let below = c.in_ok-bits.bits in
    let bits = c.running_bits.result in
    let kept : (b : ℕ) → b < s.bays → bit bits b ≡ (not (f' b) && bit below b) = λ b i. c.running_bits.ensures.kept b (subst (λ n. b < n) (sym bays) i) in
    done _ _ _ _ _ _ _ none (stop_shape f f' s s' c.lay.ensures.promised.0) (λ h.
    let k = when_done s s' (g.S.Shelf.sound d.shelf) (g.S.Shelf.sound c.lay.new.self) (refuses_lay p ws s) (LayAnswer p ws) (Ok below) none c.in_ok-bits.ensures.promised h in (
      k.0,
      stop_laid f f' s s' c.lay.ensures.promised.0 (still_stopped d.schedule c.count.new.self c.count.ensures) p ws below bits
          (subst (λ n. bits < 2 ^ n) bays c.running_bits.ensures.others) kept k.1,
    ))
