-- Why a boundary gets no certificate.
use Rattle.std.specs.Prelude.{⊤, Bool, Option}
use Rattle.cn_base.specs.declared.ids.DeviceId.{DeviceId}
use Rattle.cn_net.specs.Network.{Network}
use Rattle.cn_cert.specs.Refusal.{IsFirstRefusal}
use Rattle.cn_cert.specs.declared.certificate.CertWhy.{CertWhy}
use Rattle.cn_cert.specs.declared.certificate.CertWhy.TheVariants.{Memory, Refused}

-- the reason is the first refusal, unless memory was short
abbrev pub NamesRefusal : Network → (DeviceId → Bool) → (DeviceId → Option DeviceId)
    → CertWhy → Type 0
NamesRefusal net outside label (Refused refusal) = IsFirstRefusal net outside label refusal
NamesRefusal net outside label Memory = ⊤
