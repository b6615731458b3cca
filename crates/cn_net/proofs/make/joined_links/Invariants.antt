use Rattle.std.proofs.Common.{◌≡◌, drop, map, take}
use Rattle.cn_net.specs.Ends.{ends_between}
use Rattle.cn_net.specs.Faults.{first_from, first_in, link_fault}
use Rattle.cn_net.specs.Kept.{names_of}
use Rattle.cn_net.specs.Numbered.{link_made}
use Rattle.cn_net.proofs.make.joined_links.Given as goal

abbrev pub invariant-loop-draft : goal.invariant-loop-draft
invariant-loop-draft l = record {
  made : l.joined.items ≡ map (link_made (names_of l.devices)) (take l.draft-index l.links);
  ends : l.before.keys ≡ map ends_between l.joined.items;
  first : first_in (link_fault l.devices) l.links
      ≡ first_from (link_fault l.devices) (take l.draft-index l.links) (drop l.draft-index l.links);
}
