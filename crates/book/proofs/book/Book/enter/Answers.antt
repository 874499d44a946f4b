use Rattle.std.proofs.Common.{w64, SFits, refl, rules, to_z-of_z}
use Rattle.book.proofs.Entering.{entry_stands, enters_once}
use Rattle.book.proofs.book.Book.enter.Goals as goal

pub returns-in-Open-clause-enters : goal.returns-in-Open-clause-enters
returns-in-Open-clause-enters g c =
    let day : SFits w64 c.in-Open.day = search rules in
    let month : SFits w64 c.in-Open.month = search rules in
    rw c.in-Open.is
    (enters_once _ _ _ _ _ _ _ _ _ _ _ (simp (to_z-of_z, day, month) at c.open_day.ensures) tt
    refl refl refl)

pub returns-in-Result-clause-enters : goal.returns-in-Result-clause-enters
returns-in-Result-clause-enters g c =
    let hour : SFits w64 c.in-Result.hour = search rules in
    let party : SFits w64 c.in-Result.party = search rules in
    let mw : SFits w64 c.in-Result.mw = search rules in
    rw c.in-Result.is
    (enters_once _ _ _ _ _ _ _ _ _ _ _ (simp (to_z-of_z, hour, party, mw) at c.enter_result.ensures) tt
    refl refl refl)

pub returns-in-Offer-clause-enters : goal.returns-in-Offer-clause-enters
returns-in-Offer-clause-enters g c =
    let hour : SFits w64 c.in-Offer.hour = search rules in
    let party : SFits w64 c.in-Offer.party = search rules in
    let mw : SFits w64 c.in-Offer.mw = search rules in
    rw c.in-Offer.is
    (enters_once _ _ _ _ _ _ _ _ _ _ _ (simp (to_z-of_z, hour, party, mw) at c.enter_offer.ensures) tt
    refl refl refl)

pub returns-in-Request-clause-enters : goal.returns-in-Request-clause-enters
returns-in-Request-clause-enters g c =
    let hour : SFits w64 c.in-Request.hour = search rules in
    let party : SFits w64 c.in-Request.party = search rules in
    let mw : SFits w64 c.in-Request.mw = search rules in
    rw c.in-Request.is
    (enters_once _ _ _ _ _ _ _ _ _ _ _ (simp (to_z-of_z, hour, party, mw) at c.enter_request.ensures) tt
    refl refl refl)

pub returns-in-Allot-clause-enters : goal.returns-in-Allot-clause-enters
returns-in-Allot-clause-enters g c =
    let hour : SFits w64 c.in-Allot.hour = search rules in
    rw c.in-Allot.is
    (enters_once _ _ _ _ _ _ _ _ _ _ _ (simp (to_z-of_z, hour) at c.allot.ensures.stepped) tt
    (simp (to_z-of_z, hour) at c.allot.ensures.moved) refl refl)

pub returns-in-Deploy-clause-enters : goal.returns-in-Deploy-clause-enters
returns-in-Deploy-clause-enters g c =
    let hour : SFits w64 c.in-Deploy.hour = search rules in
    let buyer : SFits w64 c.in-Deploy.buyer = search rules in
    let mw : SFits w64 c.in-Deploy.mw = search rules in
    rw c.in-Deploy.is
    (enters_once _ _ _ _ _ _ _ _ _ _ _ (simp (to_z-of_z, hour, buyer, mw) at c.deploy.ensures.stepped) tt
    (simp (to_z-of_z, hour, buyer, mw) at c.deploy.ensures.moved) refl refl)

pub returns-in-Miss-clause-enters : goal.returns-in-Miss-clause-enters
returns-in-Miss-clause-enters g c =
    let hour : SFits w64 c.in-Miss.hour = search rules in
    let seller : SFits w64 c.in-Miss.seller = search rules in
    let buyer : SFits w64 c.in-Miss.buyer = search rules in
    let mwh : SFits w64 c.in-Miss.mwh = search rules in
    rw c.in-Miss.is
    (enters_once _ _ _ _ _ _ _ _ _ _ _ (simp (to_z-of_z, hour, seller, buyer, mwh) at c.enter_miss.ensures) tt
    refl refl refl)

pub returns-in-Void-clause-enters : goal.returns-in-Void-clause-enters
returns-in-Void-clause-enters g c =
    rw c.in-Void.is
    (enters_once _ _ _ _ _ _ _ _ _ _ _ c.void_day.ensures tt
    refl refl refl)

pub returns-in-Year-clause-enters : goal.returns-in-Year-clause-enters
returns-in-Year-clause-enters g c =
    rw c.in-Year.is
    (enters_once _ _ _ _ _ _ _ _ _ _ _ c.start_year.ensures tt
    refl refl refl)

pub returns-in-Close-clause-enters : goal.returns-in-Close-clause-enters
returns-in-Close-clause-enters g c = rw c.in-Close.is (entry_stands c.close_day.ensures.did)
