use Rattle.std.proofs.Common.{◌≡◌, ◌<◌, ◌++◌, ◌∷◌, [], ℕ, Vec, Global, length, get_or, map, ap, sym, ◌∙◌, arith}
use Rattle.std.proofs.lemmas.List.{get_or-map, length-map, length-set, map-set}
use Rattle.cn_base.specs.declared.ids.DeviceId.{DeviceId}
use Rattle.cn_net.specs.declared.sessions.SessionEnds.{SessionEnds}
use Rattle.cn_net.proofs.Indexing.{places_more}
use Rattle.cn_net.proofs.sessions.into_of.Goals as goal

pub loop-place-preserved : goal.loop-place-preserved
loop-place-preserved c =
    let items = λ (v : Vec ℕ Global). v.items in
    let ends = c.args.ends.now in
    let i = c.loop-place.place in
    let none : DeviceId = record { 0 = 0 } in
    let e : SessionEnds = record { from = none; to = none } in
    let to = (get_or ends i e).to in
    let lists = c.loop-place.into.items in
    let within : i < length ends = omega arith in
    let below : to.0 < c.args.count = c.requires.receivers i e within in
    let many : length (map items lists) ≡ c.args.count =
    length-map lists items ∙ c.loop-place.invariant.many in
    let inside : to.0 < length lists = omega (arith, c.loop-place.invariant.many) in
    let list = c.index_mut-list.result.now in
    let here : list.items ≡ get_or (map items lists) to.0 [] =
    ap items c.index_mut-list.ensures.value
    ∙ sym (get_or-map items lists to.0 list [] inside) in
    let put : c.push.new.self.items ≡ get_or (map items lists) to.0 [] ++ i ∷ [] =
    c.in_ok-push.ensures.items ∙ ap (λ ks. ks ++ i ∷ []) here in
    record {
      many = length-set lists to.0 c.push.new.self ∙ c.loop-place.invariant.many;
      places = λ d lt.
          ap (λ ls. get_or ls d.0 []) (map-set items lists to.0 c.push.new.self)
          ∙ places_more ends i c.args.count e (map items lists) c.push.new.self.items within below
          many c.loop-place.invariant.places put d lt;
    }
