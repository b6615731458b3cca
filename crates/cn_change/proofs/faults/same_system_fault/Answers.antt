use Rattle.std.proofs.Common.{◌≡◌, ◌==◌, ◌∙◌, ap, find, map, option_map, sym, List, Option}
use Rattle.cn_base.specs.declared.ids.Asn.{Asn}
use Rattle.cn_base.specs.declared.ids.DeviceId.{DeviceId}
use Rattle.cn_lists.proofs.Finding.{find-map}
use Rattle.cn_change.specs.Journal.{same_system_fault}
use Rattle.cn_change.specs.declared.change.ChangeFault.TheVariants.{SameAs}
use Rattle.cn_change.proofs.faults.same_system_fault.Goals as goal
use Rattle.cn_net.specs.Network.{Network, asn_of, peers_of}
use Rattle.cn_net.specs.declared.neighbours.Neighbour.{Neighbour}

-- what is found among the neighbours is found among the peers
found_peer : (net : Network) (d : DeviceId) (asn : Asn) (seen : List Neighbour)
    (o : Option DeviceId) → map (λ n. n.device) seen ≡ peers_of net d
    → o ≡ option_map (λ n. n.device) (find (λ n. (asn_of net n.device).0 == asn.0) seen)
    → option_map SameAs o ≡ same_system_fault net d asn
unfolding same_system_fault
found_peer net d asn seen o peers is =
    ap (option_map SameAs)
    (is
    ∙ sym (find-map (λ p. (asn_of net p).0 == asn.0) (λ (n : Neighbour). n.device) seen)
    ∙ ap (find (λ p. (asn_of net p).0 == asn.0)) peers)

pub returns-in-Some : goal.returns-in-Some
returns-in-Some c =
    found_peer c.args.net.now c.args.d c.args.asn _ _ c.neighbours.ensures.peers c.in-Some.ensures

pub returns-in-None : goal.returns-in-None
returns-in-None c =
    found_peer c.args.net.now c.args.d c.args.asn _ _ c.neighbours.ensures.peers c.in-None.ensures
