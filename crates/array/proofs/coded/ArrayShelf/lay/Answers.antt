use Rattle.std.proofs.Common.{◌%◌, ◌^◌, ◌<◌, Ok, Err, ap, ◌∙◌, subst, arith}
use Rattle.std.proofs.lemmas.Nat.{one_shl}
use Rattle.shelf.proofs.Settling.{tested_lay}
use Rattle.shelf.specs.Calls.{Outcome, LayAnswer, refuses_lay}
use Rattle.array.specs.Tables.{array_table}
use Rattle.array.proofs.Lays.{words_vector, refused_promised, refused_below, lay_promised, lay_below, lay_told}
use Rattle.array.proofs.coded.ArrayShelf.lay.Goals as goal

pub row_words-all-requires : goal.row_words-all-requires
row_words-all-requires g c =
    let t = array_table g.S.Shelf.table g.P.F.Field.arithmetic g.P.Plan.coefficients c.args.self.now in
    let none = tested_lay t _ _ c.shape.ensures.promised c.from.ensures c.args.place c.args.words.now c.in_ok-check_lay.ensures in
    words_vector g.S.Shelf.table g.S.Shelf.sound g.P.F.Field.arithmetic g.met.P.F.Field.lawful g.P.Plan.coefficients c.args.self.now (g.met.P.Plan.fitting c.args.self.now.plan) c.args.place c.args.words.now none

pub returns-in_err-bits-clause-promised : goal.returns-in_err-bits-clause-promised
returns-in_err-bits-clause-promised g c =
    let table = g.S.Shelf.table in
    let sound = g.S.Shelf.sound in
    let p = c.args.place in
    let e = c.in_err-bits.field-0.0 in
    let none = tested_lay (array_table table g.P.F.Field.arithmetic g.P.Plan.coefficients c.args.self.now) _ _ c.shape.ensures.promised c.from.ensures p c.args.words.now c.in_ok-check_lay.ensures in
    refused_promised table sound g.P.F.Field.arithmetic g.met.P.F.Field.lawful g.P.Plan.coefficients c.args.self.now (g.met.P.Plan.fitting c.args.self.now.plan) p c.args.words.now none c.lay.new.self e
    (subst (λ all. Outcome table sound c.args.self.now.below c.lay.new.self (refuses_lay p all) (LayAnswer p all) (Err e)) (c.deref.ensures.0 ∙ c.row_words-all.ensures) c.in_err-bits.ensures.promised)
    c.from_residual-in_err-bits.result

pub returns-in_err-bits-clause-below : goal.returns-in_err-bits-clause-below
returns-in_err-bits-clause-below g c =
    let table = g.S.Shelf.table in
    let sound = g.S.Shelf.sound in
    let p = c.args.place in
    let e = c.in_err-bits.field-0.0 in
    let none = tested_lay (array_table table g.P.F.Field.arithmetic g.P.Plan.coefficients c.args.self.now) _ _ c.shape.ensures.promised c.from.ensures p c.args.words.now c.in_ok-check_lay.ensures in
    refused_below table sound g.P.F.Field.arithmetic g.met.P.F.Field.lawful g.P.Plan.coefficients c.args.self.now (g.met.P.Plan.fitting c.args.self.now.plan) p c.args.words.now none c.lay.new.self e
    (subst (λ all. Outcome table sound c.args.self.now.below c.lay.new.self (refuses_lay p all) (LayAnswer p all) (Err e)) (c.deref.ensures.0 ∙ c.row_words-all.ensures) c.in_err-bits.ensures.promised)
    c.from_residual-in_err-bits.result

pub returns-clause-promised : goal.returns-clause-promised
returns-clause-promised g c =
    let table = g.S.Shelf.table in
    let sound = g.S.Shelf.sound in
    let p = c.args.place in
    let fit = g.met.P.Plan.fitting c.args.self.now.plan in
    let few : c.data_bays.result < 32 = omega (arith, c.data_bays.ensures, fit.data_high) in
    let none = tested_lay (array_table table g.P.F.Field.arithmetic g.P.Plan.coefficients c.args.self.now) _ _ c.shape.ensures.promised c.from.ensures p c.args.words.now c.in_ok-check_lay.ensures in
    lay_promised table sound g.P.F.Field.arithmetic g.met.P.F.Field.lawful g.P.Plan.coefficients c.args.self.now fit p c.args.words.now none
    c.lay.new.self c.in_ok-bits.bits c.told_bays.result _
    (subst (λ all. Outcome table sound c.args.self.now.below c.lay.new.self (refuses_lay p all) (LayAnswer p all) (Ok c.in_ok-bits.bits)) (c.deref.ensures.0 ∙ c.row_words-all.ensures) c.in_ok-bits.ensures.promised)
    c.told_bays.ensures.just
    (ap (λ m. c.told_bays.result % m) (one_shl c.data_bays.result 32 few ∙ ap (λ n. 2 ^ n) c.data_bays.ensures))

pub returns-clause-below : goal.returns-clause-below
returns-clause-below g c =
    let table = g.S.Shelf.table in
    let sound = g.S.Shelf.sound in
    let p = c.args.place in
    let fit = g.met.P.Plan.fitting c.args.self.now.plan in
    let few : c.data_bays.result < 32 = omega (arith, c.data_bays.ensures, fit.data_high) in
    let none = tested_lay (array_table table g.P.F.Field.arithmetic g.P.Plan.coefficients c.args.self.now) _ _ c.shape.ensures.promised c.from.ensures p c.args.words.now c.in_ok-check_lay.ensures in
    lay_below table sound g.P.F.Field.arithmetic g.met.P.F.Field.lawful g.P.Plan.coefficients c.args.self.now fit p c.args.words.now none
    c.lay.new.self c.in_ok-bits.bits c.told_bays.result _
    (subst (λ all. Outcome table sound c.args.self.now.below c.lay.new.self (refuses_lay p all) (LayAnswer p all) (Ok c.in_ok-bits.bits)) (c.deref.ensures.0 ∙ c.row_words-all.ensures) c.in_ok-bits.ensures.promised)
    c.told_bays.ensures.just
    (ap (λ m. c.told_bays.result % m) (one_shl c.data_bays.result 32 few ∙ ap (λ n. 2 ^ n) c.data_bays.ensures))

pub returns-clause-bits : goal.returns-clause-bits
returns-clause-bits g c =
    let table = g.S.Shelf.table in
    let sound = g.S.Shelf.sound in
    let p = c.args.place in
    let fit = g.met.P.Plan.fitting c.args.self.now.plan in
    let few : c.data_bays.result < 32 = omega (arith, c.data_bays.ensures, fit.data_high) in
    let none = tested_lay (array_table table g.P.F.Field.arithmetic g.P.Plan.coefficients c.args.self.now) _ _ c.shape.ensures.promised c.from.ensures p c.args.words.now c.in_ok-check_lay.ensures in
    lay_told table sound g.P.F.Field.arithmetic g.met.P.F.Field.lawful g.P.Plan.coefficients c.args.self.now fit p c.args.words.now none
    c.lay.new.self c.in_ok-bits.bits c.told_bays.result _
    (subst (λ all. Outcome table sound c.args.self.now.below c.lay.new.self (refuses_lay p all) (LayAnswer p all) (Ok c.in_ok-bits.bits)) (c.deref.ensures.0 ∙ c.row_words-all.ensures) c.in_ok-bits.ensures.promised)
    c.told_bays.ensures.just
    (ap (λ m. c.told_bays.result % m) (one_shl c.data_bays.result 32 few ∙ ap (λ n. 2 ^ n) c.data_bays.ensures))
    g.S.Shelf.lay_bits
    (subst (λ all. g.S.Shelf.lay_bits c.args.self.now.below c.lay.new.self p all (Ok c.in_ok-bits.bits)) (c.deref.ensures.0 ∙ c.row_words-all.ensures) c.in_ok-bits.ensures.bits)
