-- The ends of links, as the code compares them.
use Rattle.std.specs.Prelude.{◌&&◌, Bool, if◌then◌else◌, nat_lt}
use Rattle.cn_net.specs.Network.{same_device}
use Rattle.cn_net.specs.declared.device.Link.{Link}
use Rattle.cn_net.specs.declared.make.Ends.{Ends}

-- the two ends, the lesser number first
abbrev pub ends_between : Link → Ends
ends_between l = if nat_lt l.a.0 l.b.0 then record { low = l.a; high = l.b } else record {
  low =
      l.b;
  high = l.a;
}

abbrev pub same_pair : Ends → Ends → Bool
same_pair x y = same_device x.low y.low && same_device x.high y.high
