-- Who faces islands, read from the links.
use Rattle.std.proofs.Common.{◌≡◌, Bool, true, false, List, flat_map, Option, Some, None, option_map, find, refl, sym, ap, subst, ◌∙◌, inl, inr, ◌⊎◌, ◌&&◌, All}
use Rattle.std.proofs.lemmas.Bool.{cases_Bool, cond-true, cond-false, and_parts, and_from, or_left, or_right, or_cases, eq-eqb}
use Rattle.std.proofs.lemmas.List.Elements.{All-contains, Contains-append_left, Contains-append_right, Contains-append_cases}
use Rattle.std.proofs.lemmas.Option.{none-some, same_Some}
use Rattle.std.specs.List.{Contains}
use Rattle.std.specs.Option.{option_to_list}
use Rattle.std.specs.Prelude.{◌↔◌}
use Rattle.cn_base.specs.declared.ids.DeviceId.{DeviceId}
use Rattle.cn_net.specs.declared.device.Link.{Link}
use Rattle.cn_net.specs.Network.{Network, IsDevice, IsLinked, joins, same_device}
use Rattle.cn_net.specs.Valid.{JoinsDevices}
use Rattle.cn_cert.specs.Steps.{HasMember, faced, faced_by, member, on_side}
use Rattle.cn_cert.specs.Refusal.{Faces}
use Rattle.cn_cert.specs.declared.members.Member.{Member}
use Rattle.cn_cert.specs.declared.refusal.Side.{Side}
use Rattle.cn_cert.specs.declared.refusal.Side.TheVariants.{Emulated, Outside}
use Rattle.cn_cert.proofs.Lists.{same_number, flat_has, flat_from, option_has, option_from, find_some, find_has, map_some, some_map}

-- ---- links

itself : (d : DeviceId) → same_device d d ≡ true
itself d = eq-eqb d.0 d.0 refl

joined_by : (net : Network) (a b : DeviceId) (l : Link) → Contains net.links l → joins a b l ≡ true
    → IsLinked net a b
joined_by net a b l h j =
    map_some (λ (x : Link). x.up) (find (joins a b) net.links)
    (find_some (joins a b) net.links l h j)

-- a link that joins two devices
link_of : (net : Network) (a b : DeviceId) → IsLinked net a b
    → (l : Link) × Contains net.links l × (((l.a ≡ a) × (l.b ≡ b)) ⊎ ((l.a ≡ b) × (l.b ≡ a)))
link_of net a b h =
    let f =
    find_has (joins a b) net.links (some_map (λ (x : Link). x.up) (find (joins a b) net.links) h) in
    let l = f.0 in (
      l,
      f.1,
      elim (or_cases (same_device l.a a && same_device l.b b)
          (same_device l.a b && same_device l.b a) f.2) [
            | inl s ↦ let p = and_parts _ _ s in inl (same_number l.a a p.0, same_number l.b b p.1)
            | inr s ↦ let p = and_parts _ _ s in inr (same_number l.a b p.0, same_number l.b a p.1)
          ],
    )

-- ---- one end of a link

-- what makes a member of a link's ends
record IsFaced (outside : DeviceId → Bool) (name : DeviceId → Option DeviceId) (side : Side)
    (near far i d : DeviceId) : Type 0 where
  emulated : outside near ≡ false
  island : name far ≡ Some i
  device : on_side side near far ≡ d

faced_from : (outside : DeviceId → Bool) (name : DeviceId → Option DeviceId) (side : Side)
    (near far i d : DeviceId)
    → faced outside name side near far ≡ Some (member i d) → IsFaced outside name side near far i d
faced_from outside name side near far i d e =
    elim (cases_Bool (outside near)) [
      | inl t ↦ absurd (none-some (member i d) (sym (cond-true (outside near) None rest t) ∙ e))
      | inr f ↦ go (name far) refl f (sym (cond-false (outside near) None rest f) ∙ e)
    ]
  where
    rest : Option (Member DeviceId)
    rest = option_map (λ island. member island (on_side side near far)) (name far)

    go : (o : Option DeviceId) → name far ≡ o → outside near ≡ false
        → option_map (λ island. member island (on_side side near far)) o ≡ Some (member i d)
        → IsFaced outside name side near far i d
    go None s f q = absurd (none-some (member i d) q)
    go (Some x) s f q =
        let m = same_Some (member x (on_side side near far)) (member i d) q in
        record {
          emulated = f;
          island = s ∙ ap Some (ap (λ z. z.key) m);
          device = ap (λ z. z.device) m;
        }

faced_to : (outside : DeviceId → Bool) (name : DeviceId → Option DeviceId) (side : Side)
    (near far i d : DeviceId)
    → IsFaced outside name side near far i d → faced outside name side near far ≡ Some (member i d)
faced_to outside name side near far i d h =
    cond-false (outside near) None
    (option_map (λ island. member island (on_side side near far)) (name far)) h.emulated
    ∙ ap (option_map (λ island. member island (on_side side near far))) h.island
    ∙ ap (λ z. Some (member i z)) h.device

-- ---- both

module _ (net : Network) (outside : DeviceId → Bool) (name : DeviceId → Option DeviceId) where
  faces_from : (side : Side) (near far i d : DeviceId) → IsDevice net near → IsDevice net far
      → IsLinked net near far → IsFaced outside name side near far i d
      → Faces net outside name side i d
  faces_from Emulated near far i d n f l h =
      subst (Faces net outside name Emulated i) h.device (record {
        is_device = n;
        emulated = h.emulated;
        peer = far;
        peer_is_device = f;
        in_island = h.island;
        linked = l;
      })
  faces_from Outside near far i d n f l h =
      subst (Faces net outside name Outside i) h.device (record {
        is_device = f;
        in_island = h.island;
        peer = near;
        peer_is_device = n;
        emulated = h.emulated;
        linked = l;
      })

  faces_to : (side : Side) (i d : DeviceId) → Faces net outside name side i d
      → (near : DeviceId) × (far : DeviceId) × IsLinked net near far
      × IsFaced outside name side near far i d
  faces_to Emulated i d h =
      (d, h.peer, h.linked, record { emulated = h.emulated; island = h.in_island; device = refl })
  faces_to Outside i d h =
      (h.peer, d, h.linked, record { emulated = h.emulated; island = h.in_island; device = refl })

  pub faces_are : (side : Side) (ms : List (Member DeviceId)) → All (JoinsDevices net) net.links
      → ms ≡ flat_map (faced_by outside name side) net.links → (i d : DeviceId)
      → HasMember ms i d ↔ Faces net outside name side i d
  faces_are side ms ends e i d = (from, to)
    where
      from : HasMember ms i d → Faces net outside name side i d
      from h =
          let s =
          flat_from (faced_by outside name side) net.links (member i d)
          (subst (λ z. Contains z (member i d)) e h) in
          let l = s.0 in
          let j = All-contains (JoinsDevices net) net.links l ends s.1 in
          elim (Contains-append_cases (option_to_list (faced outside name side l.a l.b))
          (option_to_list (faced outside name side l.b l.a)) (member i d) s.2) [
            | inl r ↦ faces_from side l.a l.b i d j.a j.b
                (joined_by net l.a l.b l s.1 (or_left _ _ (and_from _ _ (itself l.a) (itself l.b))))
                (faced_from outside name side l.a l.b i d
                (option_from (faced outside name side l.a l.b) (member i d) r))
            | inr r ↦ faces_from side l.b l.a i d j.b j.a
                (joined_by net l.b l.a l s.1
                (or_right (same_device l.a l.b && same_device l.b l.a) _
                (and_from _ _ (itself l.a) (itself l.b))))
                (faced_from outside name side l.b l.a i d
                (option_from (faced outside name side l.b l.a) (member i d) r))
          ]

      to : Faces net outside name side i d → HasMember ms i d
      to h =
          let s = faces_to side i d h in
          let near = s.0 in
          let far = s.1 in
          let k = link_of net near far s.2 in
          let l = k.0 in
          let is = faced_to outside name side near far i d s.3 in
          subst (λ z. Contains z (member i d)) (sym e)
          (flat_has (faced_by outside name side) net.links l (member i d) k.1
          (elim k.2 [
            | inl r ↦
                Contains-append_left (option_to_list (faced outside name side l.a l.b))
                (option_to_list (faced outside name side l.b l.a)) (member i d)
                (option_has (faced outside name side l.a l.b) (member i d)
                (ap (λ z. faced outside name side z l.b) r.0 ∙ ap (faced outside name side near) r.1
                ∙ is))
            | inr r ↦
                Contains-append_right (option_to_list (faced outside name side l.a l.b))
                (option_to_list (faced outside name side l.b l.a)) (member i d)
                (option_has (faced outside name side l.b l.a) (member i d)
                (ap (λ z. faced outside name side z l.a) r.1 ∙ ap (faced outside name side near) r.0
                ∙ is))
          ]))
