-- The layout of each structure that has one, and its fields' values in the layout's order.
use Rattle.std.specs.Prelude.{ℕ, List, [], ◌∷◌, codes}
use Rattle.abi_structures.specs.declared.structures.Dirent.{Dirent}
use Rattle.abi_structures.specs.declared.structures.FdStat.{FdStat}
use Rattle.abi_structures.specs.declared.structures.FileStat.{FileStat}
use Rattle.abi_structures.specs.declared.structures.Iovec.{Iovec}
use Rattle.abi_structures.specs.declared.structures.RecvIn.{RecvIn}
use Rattle.abi_structures.specs.declared.structures.RecvOut.{RecvOut}
use Rattle.abi_structures.specs.declared.structures.SendIn.{SendIn}
use Rattle.abi_structures.specs.declared.structures.SendOut.{SendOut}
use Rattle.abi_structures.specs.declared.structures.ThreadAttr.{ThreadAttr}
use Rattle.abi_layout.specs.Layout.{Layout, field}

abbrev pub iovec_layout : Layout
iovec_layout =
    record {
      size = 16;
      fields =
          field (codes "address") 8 0
          ∷ field (codes "length") 8 8
          ∷ [];
    }

abbrev pub iovec_values : Iovec → List ℕ
iovec_values v = v.address ∷ v.length ∷ []

abbrev pub fdstat_layout : Layout
fdstat_layout =
    record {
      size = 24;
      fields =
          field (codes "kind") 1 0
          ∷ field (codes "flags") 2 2
          ∷ field (codes "base") 8 8
          ∷ field (codes "inheriting") 8 16
          ∷ [];
    }

abbrev pub fdstat_values : FdStat → List ℕ
fdstat_values v = v.kind ∷ v.flags ∷ v.base.0 ∷ v.inheriting.0 ∷ []

abbrev pub filestat_layout : Layout
filestat_layout =
    record {
      size = 56;
      fields =
          field (codes "dev") 8 0
          ∷ field (codes "ino") 8 8
          ∷ field (codes "kind") 1 16
          ∷ field (codes "nlink") 4 20
          ∷ field (codes "size") 8 24
          ∷ field (codes "atim") 8 32
          ∷ field (codes "mtim") 8 40
          ∷ field (codes "ctim") 8 48
          ∷ [];
    }

abbrev pub filestat_values : FileStat → List ℕ
filestat_values v = v.dev ∷ v.ino ∷ v.kind ∷ v.nlink ∷ v.size ∷ v.atim ∷ v.mtim ∷ v.ctim ∷ []

abbrev pub dirent_layout : Layout
dirent_layout =
    record {
      size = 24;
      fields =
          field (codes "next") 8 0
          ∷ field (codes "ino") 8 8
          ∷ field (codes "namlen") 4 16
          ∷ field (codes "kind") 1 20
          ∷ [];
    }

abbrev pub dirent_values : Dirent → List ℕ
dirent_values v = v.next ∷ v.ino ∷ v.namlen ∷ v.kind ∷ []

abbrev pub threadattr_layout : Layout
threadattr_layout =
    record {
      size = 32;
      fields =
          field (codes "entry") 8 0
          ∷ field (codes "stack") 8 8
          ∷ field (codes "stacklen") 8 16
          ∷ field (codes "argument") 8 24
          ∷ [];
    }

abbrev pub threadattr_values : ThreadAttr → List ℕ
threadattr_values v = v.entry ∷ v.stack ∷ v.stacklen ∷ v.argument ∷ []

abbrev pub recv_in_layout : Layout
recv_in_layout =
    record {
      size = 40;
      fields =
          field (codes "iovs") 8 0
          ∷ field (codes "iovs_count") 8 8
          ∷ field (codes "fds") 8 16
          ∷ field (codes "fds_count") 8 24
          ∷ field (codes "flags") 2 32
          ∷ [];
    }

abbrev pub recv_in_values : RecvIn → List ℕ
recv_in_values v = v.iovs ∷ v.iovs_count ∷ v.fds ∷ v.fds_count ∷ v.flags ∷ []

abbrev pub recv_out_layout : Layout
recv_out_layout =
    record {
      size = 24;
      fields =
          field (codes "datalen") 8 0
          ∷ field (codes "fdslen") 8 8
          ∷ field (codes "flags") 2 16
          ∷ [];
    }

abbrev pub recv_out_values : RecvOut → List ℕ
recv_out_values v = v.datalen ∷ v.fdslen ∷ v.flags ∷ []

abbrev pub send_in_layout : Layout
send_in_layout =
    record {
      size = 40;
      fields =
          field (codes "iovs") 8 0
          ∷ field (codes "iovs_count") 8 8
          ∷ field (codes "fds") 8 16
          ∷ field (codes "fds_count") 8 24
          ∷ field (codes "flags") 2 32
          ∷ [];
    }

abbrev pub send_in_values : SendIn → List ℕ
send_in_values v = v.iovs ∷ v.iovs_count ∷ v.fds ∷ v.fds_count ∷ v.flags ∷ []

abbrev pub send_out_layout : Layout
send_out_layout =
    record {
      size = 8;
      fields =
          field (codes "datalen") 8 0
          ∷ [];
    }

abbrev pub send_out_values : SendOut → List ℕ
send_out_values v = v.datalen ∷ []
